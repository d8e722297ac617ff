use Rattle.std.proofs.Common.{◌≡◌, [], drop, fold}
use Rattle.im_group.specs.Tallies.{with_column}
use Rattle.im_group.proofs.asked.columns_of.Given as goal

abbrev pub invariant-loop-item : goal.invariant-loop-item
invariant-loop-item l = fold with_column l.columns.items (drop l.item-index l.items) ≡ fold with_column [] l.items
