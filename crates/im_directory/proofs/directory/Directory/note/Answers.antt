use Rattle.std.proofs.Common.{refl}
use Rattle.im_history.specs.Puts.{all_changes}
use Rattle.im_directory.proofs.EffectLemmas.{AreBefore-from, IsNoted-made}
use Rattle.im_directory.proofs.PlacedLemmas.{IsPlaced-same}
use Rattle.im_directory.proofs.SoundLemmas.{IsSound-noted}
use Rattle.im_directory.proofs.directory.Directory.note.Goals as goal

pub note_all-requires-clause-later : goal.note_all-requires-clause-later
note_all-requires-clause-later g c = rw (← c.self.view_is) at (AreBefore-from c.args.self.now c.args.scn c.requires.later)

pub invariant_of-self : goal.invariant_of-self
invariant_of-self g c =
    IsPlaced-same _ _ _ refl c.note_all.ensures.room
    (IsSound-noted _ _ c.args.tables.now c.args.scn (all_changes c.args.writes.now)
    (IsNoted-made _ _ c.self.inside.builds c.args.tables.now c.args.scn (all_changes c.args.writes.now) c.note_all.ensures) c.self.invariant.sound) c.self.invariant
