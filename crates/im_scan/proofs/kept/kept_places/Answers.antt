use Rattle.std.proofs.Common.{◌∙◌, ap, length, sym}
use Rattle.std.proofs.lemmas.List.{length-map}
use Rattle.im_group.specs.Partials.{keeps}
use Rattle.im_unit.specs.Holding.{present_rows}
use Rattle.im_unit.proofs.ForCallers.{count-present}
use Rattle.im_scan.proofs.KeptPlaces.{kept-full, kept-by_place}
use Rattle.im_scan.proofs.kept.kept_places.Goals as goal

pub returns-then-is_full : goal.returns-then-is_full
returns-then-is_full c = c.in_ok-spots.ensures ∙ kept-full c.args.filter.now c.args.unit.now.rows c.if-is_full.ensures

pub by_place-requires : goal.by_place-requires
by_place-requires c =
    let rows = c.args.unit.now.rows in
    ap length c.in_ok-spots.ensures ∙ (length-map (present_rows rows) (keeps c.args.filter.now) ∙ sym (count-present rows))

pub returns : goal.returns
returns c =
    kept-by_place c.args.filter.now c.args.unit.now.rows c.in_ok-spots.spots c.in_ok-places.places c.in_ok-places.ensures c.in_ok-spots.ensures
