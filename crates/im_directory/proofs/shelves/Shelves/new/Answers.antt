use Rattle.im_directory.proofs.ListedLemmas.{AreListed-new}
use Rattle.im_directory.proofs.shelves.Shelves.new.Goals as goal

pub invariant_of-result : goal.invariant_of-result
invariant_of-result g c = AreListed-new g.U.UnitLike.content _ _ c.new.ensures c.new-2.ensures
