use Rattle.std.proofs.Common.{◌≡◌, ◌∙◌, [], List, Option, IfOk, ap, subst, sym}
use Rattle.im_history.specs.Rows.{Row}
use Rattle.im_history.specs.Units.{Content}
use Rattle.im_unit.specs.Holding.{AreShort, HaveWidth, lent_slots, wide_slots}
use Rattle.im_unit.proofs.BuildLemmas.{slots-alone}
use Rattle.im_unit.proofs.unit.ColumnUnit.build.Goals as goal

pub build_lent-requires-clause-width : goal.build_lent-requires-clause-width
build_lent-requires-clause-width c =
    let slots = c.as_slice.result.now in
    let are : wide_slots [] slots ≡ c.args.rows.now = slots-alone (lent_slots slots) ∙ (ap lent_slots c.as_slice.ensures.value ∙ c.in_ok-slots.ensures) in
    subst (HaveWidth c.args.columns) (sym are) c.requires.width

pub build_lent-requires-clause-short : goal.build_lent-requires-clause-short
build_lent-requires-clause-short c =
    let slots = c.as_slice.result.now in
    let are : wide_slots [] slots ≡ c.args.rows.now = slots-alone (lent_slots slots) ∙ (ap lent_slots c.as_slice.ensures.value ∙ c.in_ok-slots.ensures) in
    subst AreShort (sym are) c.requires.short

pub returns : goal.returns
returns c =
    let slots = c.as_slice.result.now in
    let are : wide_slots [] slots ≡ c.args.rows.now = slots-alone (lent_slots slots) ∙ (ap lent_slots c.as_slice.ensures.value ∙ c.in_ok-slots.ensures) in
    subst
    (λ (l : List (Option Row)). IfOk c.build_lent.result (λ (unit : Content). unit ≡
    record { scn = c.args.scn; first = c.args.first; columns = c.args.columns; rows = l }))
    are c.build_lent.ensures
