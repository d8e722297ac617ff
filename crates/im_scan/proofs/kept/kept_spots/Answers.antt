use Rattle.std.proofs.Common.{◌∙◌, ap, map, subst, sym}
use Rattle.std.specs.List.{AllByRecursion}
use Rattle.std.specs.Option.{ForSome}
use Rattle.im_syntax.specs.BoundFits.{FilterFits}
use Rattle.im_eval.specs.Holds.{truth_of}
use Rattle.im_codepred.specs.declared.asked.Wanted.TheVariants.{Held}
use Rattle.im_codepred.specs.Selection.{AreLong, OfRows, rows_met}
use Rattle.im_group.specs.Partials.{keeps}
use Rattle.im_unit.specs.Holding.{columns_of, present_rows}
use Rattle.im_unit.proofs.ForCallers.{columns-of_long}
use Rattle.im_scan.proofs.KeptPlaces.{spots-kept, all-kept, fits-across}
use Rattle.im_scan.proofs.kept.kept_spots.Goals as goal

pub select-requires-clause-long : goal.select-requires-clause-long
select-requires-clause-long c =
    let unit = c.args.unit.now in
    subst (λ columns. AreLong columns c.present-present.result) (sym c.columns.ensures.values)
    (subst (λ n. AreLong (columns_of unit) n) (sym c.present-present.ensures.count) (columns-of_long unit))

pub select-requires-clause-fits : goal.select-requires-clause-fits
select-requires-clause-fits c =
    let unit = c.args.unit.now in
    let condition = c.in-Some.filter in
    subst (λ columns. OfRows (λ row. FilterFits row condition) columns c.present-present.result) (sym c.columns.ensures.values)
    (subst (λ n. OfRows (λ row. FilterFits row condition) (columns_of unit) n) (sym c.present-present.ensures.count)
    (fits-across unit condition c.columns.ensures.wide
    (subst (λ filter. AllByRecursion (λ row. ForSome row (λ values. ForSome filter (FilterFits values))) unit.rows) c.in-Some.is c.requires)))

pub returns-in_ok-select-in-Some : goal.returns-in_ok-select-in-Some
returns-in_ok-select-in-Some c =
    let unit = c.args.unit.now in
    let condition = c.in-Some.filter in
    c.in_ok-select-in-Some.ensures
    ∙ (ap (λ columns. rows_met Held (truth_of condition) columns c.present-present.result) c.columns.ensures.values
    ∙ (ap (rows_met Held (truth_of condition) (columns_of unit)) c.present-present.ensures.count
    ∙ (spots-kept unit condition c.columns.ensures.wide ∙ ap (λ filter. map (keeps filter) (present_rows unit.rows)) (sym c.in-Some.is))))

pub returns-in_ok-all-in-None : goal.returns-in_ok-all-in-None
returns-in_ok-all-in-None c =
    let rows = c.args.unit.now.rows in
    c.in_ok-all-in-None.ensures
    ∙ (all-kept rows c.present-present.result c.present-present.ensures.count ∙ ap (λ filter. map (keeps filter) (present_rows rows)) (sym c.in-None.is))
