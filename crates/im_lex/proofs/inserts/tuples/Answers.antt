use Rattle.std.proofs.Common.{◌≡◌, ◌∙◌, ◌+◌, length, length-append, sym, ap, drop, arith}
use Rattle.im_lex.specs.Bytes.{first}
use Rattle.im_lex.proofs.StraightLaws.{ended_has, tuples_go}
use Rattle.im_lex.proofs.inserts.tuples.Goals as goal

pub returns-then-first-ne44 : goal.returns-then-first-ne44
returns-then-first-ne44 c =
    ended_has c.args.line.now c.args.at c.loop-count.next c.behind_blanks-place.result c.len-width.result c.loop-count.count c.loop-count.values.items
    c.ended.result c.loop-count.invariant c.behind_blanks-place.ensures c.ended.ensures.tuples c.ended.ensures.ends

pub loop-count-preserved : goal.loop-count-preserved
loop-count-preserved c =
    let is : first (drop c.behind_blanks-place.result c.args.line.now) ≡ 44 =
    ap first (sym c.behind.ensures) ∙ sym c.first.ensures ∙ c.if-first-ne44.false in
    let tuple = rw c.in-Some-2.is at c.in_ok-further.ensures in
    let newer = c.tuple-in-loop-count.new.values.items in
    let values = c.loop-count.values.items in
    let total : length newer ≡ length values + length tuple.values = ap length tuple.grown ∙ length-append values tuple.values in
    let more : length newer ≡ length values + c.len-width.result =
    omega (arith, c.len.ensures, c.len-before.ensures, c.if-len-before.false, total) in
    tuples_go c.args.line.now c.args.at c.loop-count.next c.behind_blanks-place.result c.in-Some-2.further c.len-width.result c.loop-count.count values
    newer c.loop-count.invariant c.behind_blanks-place.ensures is tuple more
