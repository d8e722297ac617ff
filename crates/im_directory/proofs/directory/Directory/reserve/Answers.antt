use Rattle.std.proofs.Common.{refl}
use Rattle.std.proofs.lemmas.Result.{on_ok_weaker}
use Rattle.im_history.specs.Puts.{all_changes}
use Rattle.im_directory.proofs.EffectLemmas.{HasRoom-made, SameTold-alike}
use Rattle.im_directory.proofs.PlacedLemmas.{IsPlaced-same}
use Rattle.im_directory.proofs.SoundLemmas.{IsSound-told}
use Rattle.im_directory.proofs.directory.Directory.reserve.Goals as goal

pub invariant_of-self : goal.invariant_of-self
invariant_of-self g c =
    IsPlaced-same _ _ _ refl c.make_room.ensures.same.room
    (IsSound-told _ _ (SameTold-alike _ _ c.self.inside.builds c.make_room.ensures.same) c.self.invariant.sound) c.self.invariant

pub returns-clause-room : goal.returns-clause-room
returns-clause-room g c = on_ok_weaker c.make_room.result (HasRoom-made _ c.self.inside.builds c.args.tables.now (all_changes c.args.writes.now)) c.make_room.ensures.room
