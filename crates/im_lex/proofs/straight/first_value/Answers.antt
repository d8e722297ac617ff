use Rattle.std.proofs.Common.{◌≡◌, ◌∙◌, sym, ap, drop}
use Rattle.im_lex.specs.Bytes.{first}
use Rattle.im_lex.proofs.StraightLaws.{values_begin}
use Rattle.im_lex.proofs.straight.first_value.Goals as goal

pub returns : goal.returns
returns c =
    let paren : first (drop c.behind_blanks-place.result c.args.line.now) ≡ 40 =
    ap first (sym c.behind.ensures) ∙ sym c.first.ensures ∙ c.if-first-ne40.false in
    values_begin c.args.line.now c.args.at c.behind_blanks-place.result c.in-Some.next c.args.values.now.items c.value.new.values.items
    c.behind_blanks-place.ensures c.behind_blanks-place.ensures.within paren (rw c.in-Some.is at c.in_ok-next.ensures)
