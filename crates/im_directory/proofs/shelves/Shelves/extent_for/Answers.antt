use Rattle.std.proofs.Common.{arith}
use Rattle.im_history.specs.Puts.{lent_change}
use Rattle.im_directory.proofs.RangeLemmas.{IsFor-none}
use Rattle.im_directory.proofs.shelves.Shelves.extent_for.Goals as goal

pub returns-then-extents-eq0-clause-extent : goal.returns-then-extents-eq0-clause-extent
returns-then-extents-eq0-clause-extent g c =
    IsFor-none c.args.self.now c.args.tables.now (lent_change c.args.change) 0 (omega (arith, c.extents.ensures, c.if-extents-eq0.true))
