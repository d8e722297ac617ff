use Rattle.im_directory.proofs.PlacedLemmas.{IsPlaced-new}
use Rattle.im_directory.proofs.directory.Directory.new.Goals as goal

pub invariant_of-result : goal.invariant_of-result
invariant_of-result g c = IsPlaced-new _ (record { slots = c.new.ensures; builds = c.new-2.ensures })
