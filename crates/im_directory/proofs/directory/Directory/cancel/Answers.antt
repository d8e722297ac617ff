use Rattle.std.proofs.Common.{◌≡◌, Some, sym, ◌∙◌}
use Rattle.im_directory.specs.Slots.{build_among}
use Rattle.im_directory.specs.Steps.{slot_cancelled}
use Rattle.im_directory.proofs.EffectLemmas.{IsCancelled-made}
use Rattle.im_directory.proofs.PlacedLemmas.{IsPlaced-ended, changed_keeps}
use Rattle.im_directory.proofs.SoundLemmas.{IsEnding-cancelled, some_same}
use Rattle.im_directory.proofs.directory.Directory.cancel.Goals as goal

pub invariant_of-self : goal.invariant_of-self
invariant_of-self g c =
    let sound = c.self.invariant.sound in
    let place = c.self.invariant.room c.args.id c.end-held.result c.end-held.ensures.ended in
    let cancelled =
    IsCancelled-made c.self.inside.shelves c.cancel.new.self c.self.inside.builds c.end-held.new.self c.args.id c.args.full c.end-held.result sound place
    c.end-held.ensures.ended c.cancel.ensures c.end-held.ensures.rest in
    let ending = IsEnding-cancelled _ _ c.args.id c.args.full c.end-held.result sound c.end-held.ensures.ended cancelled in
    IsPlaced-ended _ _ c.args.id ending
    (changed_keeps (slot_cancelled c.args.id c.args.full) _ _ c.end-held.result.task.table c.end-held.result.task.extent c.cancel.ensures) c.self.invariant

pub returns : goal.returns
returns g c = λ held is.
    let sound = c.self.invariant.sound in
    let place = c.self.invariant.room c.args.id c.end-held.result c.end-held.ensures.ended in
    let cancelled =
    IsCancelled-made c.self.inside.shelves c.cancel.new.self c.self.inside.builds c.end-held.new.self c.args.id c.args.full c.end-held.result sound place
    c.end-held.ensures.ended c.cancel.ensures c.end-held.ensures.rest in
    let within : build_among c.self.inside.builds c.args.id ≡ Some held = rw (← c.self.view_is) at is in
    rw (← c.self.view_is) (rw (some_same _ _ (sym c.end-held.ensures.ended ∙ within)) at cancelled)
