use Rattle.std.proofs.Common.{refl}
use Rattle.im_directory.specs.Steps.{slot_begun}
use Rattle.im_directory.proofs.EffectLemmas.{IsBegun-made, SameTold-kept}
use Rattle.im_directory.proofs.PlacedLemmas.{IsPlaced-begun, IsPlaced-same, begun_keeps, changed_keeps, grown_keeps}
use Rattle.im_directory.proofs.SoundLemmas.{IsSound-begun, IsSound-told}
use Rattle.im_directory.proofs.directory.Directory.begin.Goals as goal

pub invariant_of-self : goal.invariant_of-self
invariant_of-self g c =
    IsPlaced-same _ _ _ refl (grown_keeps _ _ c.reserve.ensures.same)
    (IsSound-told _ _ (SameTold-kept _ _ c.self.inside.builds c.reserve.ensures.same) c.self.invariant.sound) c.self.invariant

pub invariant_of-self-in_err-push : goal.invariant_of-self-in_err-push
invariant_of-self-in_err-push g c =
    rw c.in_err-push.ensures.err
    (IsPlaced-same _ _ _ refl (grown_keeps _ _ c.reserve.ensures.same)
    (IsSound-told _ _ (SameTold-kept _ _ c.self.inside.builds c.reserve.ensures.same) c.self.invariant.sound) c.self.invariant)

pub invariant_of-self-2 : goal.invariant_of-self-2
invariant_of-self-2 g c =
    let begun =
    IsBegun-made c.self.inside.shelves c.reserve.new.self c.begin.new.self c.self.inside.builds c.push.new.self c.args.held c.reserve.ensures.same
    c.in_ok-room.ensures.there c.begin.ensures c.in_ok-push.ensures.ok in
    let next = rw (← c.self.view_is) at c.requires.next in
    let sound = IsSound-begun _ _ c.args.held next c.requires.alive (rw (← c.self.view_is) at c.requires.free) begun c.self.invariant.sound in
    let there =
    changed_keeps (slot_begun c.args.held.task.id) _ _ c.args.held.task.table c.args.held.task.extent c.begin.ensures c.args.held.task.table
    c.args.held.task.extent c.in_ok-room.ensures.there in
    IsPlaced-begun _ _ c.args.held next begun
    (begun_keeps (slot_begun c.args.held.task.id) _ c.reserve.new.self _ c.args.held.task.table c.args.held.task.extent c.reserve.ensures.same
    c.begin.ensures) there sound c.self.invariant

pub returns-clause-ok : goal.returns-clause-ok
returns-clause-ok g c =
    rw (← c.self.view_is)
    (IsBegun-made c.self.inside.shelves c.reserve.new.self c.begin.new.self c.self.inside.builds c.push.new.self c.args.held c.reserve.ensures.same
    c.in_ok-room.ensures.there c.begin.ensures c.in_ok-push.ensures.ok)
