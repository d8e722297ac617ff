use Rattle.std.proofs.Common.{◌≡◌, ◌/◌, ◌%◌, ◌<◌, length, get_or, ◌∙◌, arith}
use Rattle.std.proofs.lemmas.Grind.{get_or_default_zero}
use Rattle.im_tables.specs.inner.Words.{flags_of, HasFlag}
use Rattle.im_tables.proofs.FlagLemmas.{set-flags_of, word-inside}
use Rattle.im_tables.proofs.flag_line.FlagLine.put.Goals as goal

pub index-requires : goal.index-requires
index-requires c =
    let there = word-inside c.self.inside.words.items c.args.number (rw c.self.view_is c.requires) in omega (arith, there, c.self.inside.words.ok)

pub index_mut-requires : goal.index_mut-requires
index_mut-requires c =
    let there = word-inside c.self.inside.words.items c.args.number (rw c.self.view_is c.requires) in omega (arith, there, c.self.inside.words.ok)

pub hint_after-self-inside-requires-clause-there : goal.hint_after-self-inside-requires-clause-there
hint_after-self-inside-requires-clause-there c =
    let there = word-inside c.self.inside.words.items c.args.number (rw c.self.view_is c.requires) in
    omega (arith, there, c.self.inside.words.ok, c.deref.ensures.len)

pub hint_after-self-inside-requires-2-clause-there : goal.hint_after-self-inside-requires-2-clause-there
hint_after-self-inside-requires-2-clause-there c =
    let there = word-inside c.self.inside.words.items c.args.number (rw c.self.view_is c.requires) in
    omega (arith, there, c.self.inside.words.ok, c.deref-2.ensures.len)

pub returns : goal.returns
returns c =
    let words = c.self.inside.words.items in
    let index = c.args.number / 64 in
    let inside : c.args.number < length (flags_of words) = rw c.self.view_is c.requires in
    let word : c.index.result.now ≡ get_or words index 0 =
    c.index.ensures ∙ get_or_default_zero words index c.index.result.now (word-inside words c.args.number inside) in
    let has : HasFlag (get_or words index 0) (c.args.number % 64) c.args.flag c.with_flag.result = rw (← word) c.with_flag.ensures in
    rw (← c.self.view_is) (set-flags_of words c.args.number c.args.flag c.with_flag.result inside has)
