use Rattle.im_directory.proofs.ListedLemmas.{NoneWaits-past}
use Rattle.im_directory.proofs.shelves.Shelves.tables.Goals as goal

pub returns-clause-none : goal.returns-clause-none
returns-clause-none g c = λ table past.
    rw (← c.self.view_is) (NoneWaits-past g.U.UnitLike.content c.self.inside.slots c.self.inside.lists c.self.inside.used table c.self.invariant past)
