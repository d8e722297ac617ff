use Rattle.std.proofs.Common.{◌≡◌, Some, sym, ap, ◌∙◌}
use Rattle.im_history.specs.declared.task.Held.{Held}
use Rattle.im_directory.specs.Slots.{build_among}
use Rattle.im_directory.specs.Steps.{slot_switched}
use Rattle.im_directory.proofs.EffectLemmas.{IsSwitched-made, has_growing}
use Rattle.im_directory.proofs.PlacedLemmas.{IsPlaced-ended, changed_keeps}
use Rattle.im_directory.proofs.SoundLemmas.{IsEnding-switched, some_same}
use Rattle.im_directory.proofs.directory.Directory.switch.Goals as goal

pub switch-before-requires-clause-living : goal.switch-before-requires-clause-living
switch-before-requires-clause-living g c =
    let is : build_among c.self.inside.builds c.args.id ≡ Some c.requires.alive.held = rw (← c.self.view_is) at c.requires.alive.is in
    let alive = ap (λ (h : Held). h.killed) (some_same _ _ (sym c.end-held.ensures.ended ∙ is)) ∙ c.requires.alive.alive in
    has_growing c.self.inside.shelves c.self.inside.builds c.args.id c.end-held.result c.self.invariant.sound c.end-held.ensures.ended alive

pub invariant_of-self : goal.invariant_of-self
invariant_of-self g c =
    let is : build_among c.self.inside.builds c.args.id ≡ Some c.requires.alive.held = rw (← c.self.view_is) at c.requires.alive.is in
    let alive = ap (λ (h : Held). h.killed) (some_same _ _ (sym c.end-held.ensures.ended ∙ is)) ∙ c.requires.alive.alive in
    let sound = c.self.invariant.sound in
    let number = sound.numbered c.args.id c.end-held.result c.end-held.ensures.ended in
    let switched =
    IsSwitched-made c.self.inside.shelves c.switch-before.new.self c.self.inside.builds c.end-held.new.self c.args.id c.end-held.result c.args.unit
    number c.switch-before.ensures.slot c.end-held.ensures.rest in
    let ending = IsEnding-switched _ _ c.args.id c.end-held.result c.args.unit.value sound c.end-held.ensures.ended alive switched in
    IsPlaced-ended _ _ c.args.id ending
    (changed_keeps (slot_switched c.args.unit) _ _ c.end-held.result.task.table c.end-held.result.task.extent c.switch-before.ensures.slot) c.self.invariant

pub returns-clause-switched : goal.returns-clause-switched
returns-clause-switched g c = λ held is.
    let number = c.self.invariant.sound.numbered c.args.id c.end-held.result c.end-held.ensures.ended in
    let switched =
    IsSwitched-made c.self.inside.shelves c.switch-before.new.self c.self.inside.builds c.end-held.new.self c.args.id c.end-held.result c.args.unit
    number c.switch-before.ensures.slot c.end-held.ensures.rest in
    let within : build_among c.self.inside.builds c.args.id ≡ Some held = rw (← c.self.view_is) at is in
    rw (← c.self.view_is) (rw (some_same _ _ (sym c.end-held.ensures.ended ∙ within)) at switched)
