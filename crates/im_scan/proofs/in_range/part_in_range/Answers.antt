use Rattle.std.proofs.Common.{◌≡◌, length, map, ap, sym, subst, ◌∙◌, arith}
use Rattle.std.proofs.lemmas.Bool.Decides.{nat_tests}
use Rattle.std.proofs.lemmas.Result.{IfOk-weaker}
use Rattle.im_syntax.specs.declared.bound.Bound.{Bound}
use Rattle.im_group.specs.Partials.{keeps}
use Rattle.im_unit.specs.Holding.{present_rows}
use Rattle.im_scan.specs.inner.Left.{IsPartOfChosen}
use Rattle.im_scan.proofs.RangeLemmas.{all-left}
use Rattle.im_scan.proofs.in_range.part_in_range.Goals as goal

pub returns-in-Some : goal.returns-in-Some
returns-in-Some c =
    let bound = c.args.asking.now in
    let unit = c.args.unit.now in
    let none : length c.args.beside.now ≡ 0 = grind (arith, nat_tests, c.is_empty.ensures, c.if-not-is_empty.false) in
    IfOk-weaker c.kept_part.result _ _
    (λ found parts part is. all-left bound unit (keeps bound.filter) c.args.beside.now c.args.count part none (omega (arith, c.len.ensures.len, c.if-len-count.false))
    (subst (λ filter. IsPartOfChosen bound unit (map (keeps filter) (present_rows unit.rows)) part)
    (sym c.in-Some.is ∙ ap (λ (b : Bound). b.filter) c.bound-2.ensures) (parts part is)))
    c.kept_part.ensures
