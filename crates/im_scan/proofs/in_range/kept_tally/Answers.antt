use Rattle.std.proofs.Common.{map, ap, sym, subst, ◌∙◌, arith}
use Rattle.std.specs.Arc.{arc_value}
use Rattle.std.specs.Prelude.{Some}
use Rattle.im_eval.specs.Holds.{truth_of}
use Rattle.im_codepred.specs.declared.asked.Wanted.TheVariants.{Held}
use Rattle.im_codepred.specs.Selection.{AreLong, rows_met}
use Rattle.im_group.specs.Partials.{keeps}
use Rattle.im_unit.specs.Holding.{columns_of, present_rows}
use Rattle.im_unit.proofs.ForCallers.{columns-of_long}
use Rattle.im_scan.proofs.KeptPlaces.{spots-kept}
use Rattle.im_scan.proofs.RangeLemmas.{if-some, tally-kept}
use Rattle.im_scan.proofs.SummedLemmas.{columns-many}
use Rattle.im_scan.proofs.in_range.kept_tally.Goals as goal

pub tally_where-requires-clause-long : goal.tally_where-requires-clause-long
tally_where-requires-clause-long c =
    let unit = c.args.unit.now in
    subst (λ columns. AreLong columns c.present.result) (sym c.columns-columns.ensures.values)
    (subst (λ n. AreLong (columns_of unit) n) (sym c.present.ensures.count) (columns-of_long unit))

pub returns : goal.returns
returns c =
    let unit = c.args.unit.now in
    let condition = c.args.filter.now in
    let columns = map arc_value c.columns-columns.result.now in
    let many = columns-many arc_value c.columns-columns.result.now unit c.columns-columns.ensures.values in
    let same = ap (λ columns. rows_met Held (truth_of condition) columns c.present.result) c.columns-columns.ensures.values
    ∙ (ap (rows_met Held (truth_of condition) (columns_of unit)) c.present.ensures.count ∙ spots-kept unit condition c.columns-columns.ensures.wide) in
    if-some c.tally_where.result _ _
    (λ tally is. tally-kept unit columns c.args.column (rows_met Held (truth_of condition) columns c.present.result) (map (keeps (Some condition)) (present_rows unit.rows))
    tally c.columns-columns.ensures.values (omega (arith, many, c.if-column-columns.false)) same is)
    c.tally_where.ensures
