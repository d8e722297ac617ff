use Rattle.std.proofs.Common.{◌/◌, ◌+◌, ◌-◌, arith}
use Rattle.std.specs.Vec.{vec_len}
use Rattle.im_tables.proofs.FlagLemmas.{flags-resized, length-flags_of}
use Rattle.im_tables.proofs.flag_line.FlagLine.grow.Goals as goal

pub returns-then-index-len-clause-there : goal.returns-then-index-len-clause-there
returns-then-index-len-clause-there c =
    let words = c.self.inside.words in
    rw (← c.self.view_is) (omega (arith, length-flags_of words.items, words.ok, c.len.ensures, c.if-index-len.true))

pub returns-clause-same : goal.returns-clause-same
returns-clause-same c =
    let words = c.self.inside.words in
    rw (← c.self.view_is) (flags-resized words.items c.resize.new.self.items (c.args.number / 64 + 1) (c.args.number / 64 + 1 - vec_len words)
    (omega (arith, words.ok, c.len.ensures, c.if-index-len.false)) c.in_ok-resize.ensures.items)

pub returns-clause-there : goal.returns-clause-there
returns-clause-there c =
    let words = c.resize.new.self in
    omega (arith, length-flags_of words.items, words.ok, c.in_ok-resize.ensures.len)
