use Rattle.std.proofs.Common.{◌+◌, ◌∙◌, List, Bool, ap, length, sym, subst}
use Rattle.std.specs.Prelude.{IfOk}
use Rattle.std.specs.List.{AllByRecursion}
use Rattle.std.specs.Option.{ForSome}
use Rattle.im_syntax.specs.declared.bound.Bound.{Bound}
use Rattle.im_syntax.specs.BoundFits.{FilterFits}
use Rattle.im_group.specs.Partials.{keeps}
use Rattle.im_scan.specs.inner.Left.{IsPartOfChosen, is_left, spots_where}
use Rattle.im_scan.proofs.KeptPlaces.{filter-fits}
use Rattle.im_scan.proofs.LeftLemmas.{length-where}
use Rattle.im_scan.proofs.by_columns.unit_part.Goals as goal

pub left_spots-requires : goal.left_spots-requires
left_spots-requires c =
    let rows = c.args.unit.now.rows in
    subst (λ (b : Bound). AllByRecursion (λ row. ForSome row (λ values. ForSome b.filter (FilterFits values))) rows) (sym c.bound.ensures)
    (filter-fits c.args.asking.now rows c.requires)

pub chosen_part-requires : goal.chosen_part-requires
chosen_part-requires c =
    let unit = c.args.unit.now in
    ap length c.in_ok-spots.ensures
    ∙ length-where (is_left (unit.first + c.args.count) c.args.beside.now) (keeps c.bound.result.now.filter) unit.first unit.rows

pub returns : goal.returns
returns c =
    let bound = c.args.asking.now in
    let unit = c.args.unit.now in
    let left = is_left (unit.first + c.args.count) c.args.beside.now in
    subst (λ (spots : List Bool). IfOk c.chosen_part.result (λ part. ForSome part (IsPartOfChosen bound unit spots)))
    (c.in_ok-spots.ensures ∙ ap (λ (b : Bound). spots_where left (keeps b.filter) unit.first unit.rows) c.bound.ensures) c.chosen_part.ensures
