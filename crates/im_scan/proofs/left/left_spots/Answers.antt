use Rattle.std.proofs.Common.{◌∙◌, ap, length, sym, take}
use Rattle.std.proofs.lemmas.List.{length-map}
use Rattle.im_group.specs.Partials.{keeps}
use Rattle.im_unit.specs.Holding.{count_present, present_rows}
use Rattle.im_unit.proofs.ForCallers.{count-present}
use Rattle.im_scan.proofs.LeftLemmas.{left-where, length-cut}
use Rattle.im_scan.proofs.left.left_spots.Goals as goal

pub hide_past-requires : goal.hide_past-requires
hide_past-requires c =
    let rows = c.args.unit.now.rows in
    ap length c.in_ok-spots.ensures ∙ (length-map (present_rows rows) (keeps c.args.filter.now) ∙ sym (count-present rows))

pub hide_all-requires : goal.hide_all-requires
hide_all-requires c =
    let rows = c.args.unit.now.rows in
    ap length c.in_ok-hide_past.ensures
    ∙ (length-cut (count_present (take c.args.count rows)) c.in_ok-spots.spots
    ∙ (ap length c.in_ok-spots.ensures ∙ (length-map (present_rows rows) (keeps c.args.filter.now) ∙ sym (count-present rows))))

pub returns : goal.returns
returns c =
    left-where c.args.unit.now (keeps c.args.filter.now) c.args.beside.now c.args.count c.in_ok-spots.spots c.hide_past.new.spots c.hide_all.new.spots
    c.in_ok-spots.ensures c.in_ok-hide_past.ensures c.hide_all.ensures
