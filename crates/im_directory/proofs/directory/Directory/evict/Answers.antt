use Rattle.im_directory.specs.inner.Placed.{IsOut}
use Rattle.im_directory.proofs.DropLemmas.{IsDropped-out}
use Rattle.im_directory.proofs.EffectLemmas.{kept_of}
use Rattle.im_directory.proofs.PlacedLemmas.{IsPlaced-rested}
use Rattle.im_directory.proofs.directory.Directory.evict.Goals as goal

pub invariant_of-self : goal.invariant_of-self
invariant_of-self g c = IsPlaced-rested _ _ c.rest.ensures c.self.invariant

pub returns-clause-dropped : goal.returns-clause-dropped
returns-clause-dropped g c =
    let out : IsOut c.args.self.now (kept_of c.self.inside.shelves c.self.inside.builds) c.args.place c.args.table c.args.extent =
    rw c.self.view_is c.take_out-unit.ensures.out in
    IsDropped-out _ _ _ c.args.place c.args.table c.args.extent out c.rest.ensures
