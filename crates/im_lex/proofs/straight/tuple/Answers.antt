use Rattle.std.proofs.Common.{◌≡◌, ◌∙◌, sym, ap, drop}
use Rattle.im_lex.specs.Bytes.{first}
use Rattle.im_lex.proofs.StraightLaws.{tuple_ends, values_go}
use Rattle.im_lex.proofs.straight.tuple.Goals as goal

pub returns-then-byte-eq41 : goal.returns-then-byte-eq41
returns-then-byte-eq41 c =
    let is : first (drop c.behind_blanks-place.result c.args.line.now) ≡ 41 =
    ap first (sym c.behind.ensures) ∙ sym c.first-byte.ensures ∙ c.if-byte-eq41.true in
    tuple_ends c.args.line.now c.args.at c.loop.next c.behind_blanks-place.result c.args.values.now.items c.loop.values.items c.loop.invariant
    c.behind_blanks-place.ensures is

pub loop-preserved : goal.loop-preserved
loop-preserved c =
    let is : first (drop c.behind_blanks-place.result c.args.line.now) ≡ 44 =
    ap first (sym c.behind.ensures) ∙ sym c.first-byte.ensures ∙ c.if-byte-ne44.false in
    values_go c.args.line.now c.args.at c.loop.next c.behind_blanks-place.result c.args.values.now.items c.loop.values.items c.loop.invariant
    c.behind_blanks-place.ensures c.in-Some-2.further c.value.new.values.items is (rw c.in-Some-2.is at c.in_ok-further.ensures)
