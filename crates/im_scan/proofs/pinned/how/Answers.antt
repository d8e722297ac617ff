use Rattle.std.proofs.Common.{Some, sym, ap, ◌∙◌}
use Rattle.std.specs.Arc.{arc_value}
use Rattle.std.specs.Option.{option_map}
use Rattle.im_history.specs.Units.{Content}
use Rattle.im_replies.specs.Mixes.{by_unit, is_pruned}
use Rattle.im_scan.specs.Faces.{how_of}
use Rattle.im_scan.proofs.pinned.how.Goals as goal

pub returns-in-Some : goal.returns-in-Some
returns-in-Some c =
    let fetched = c.args.pin.now.fetched in
    let condition = c.args.bound.now.filter in
    c.how_by.ensures
    ∙ (ap (λ stale. by_unit (is_pruned c.deref.result.now condition) c.deref.result.now.scn stale) c.len.ensures
    ∙ (ap (λ (content : Content). how_of (Some content) fetched condition) c.deref.ensures
    ∙ ap (λ unit. how_of (option_map arc_value unit) fetched condition) (sym c.in-Some.is)))
