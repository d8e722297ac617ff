use Rattle.std.proofs.Common.{◌≡◌, ◌++◌, map}
use Rattle.im_unit.specs.Holding.{AreShort, HaveWidth}
use Rattle.check_store.proofs.builds.rows_of.Given as goal

-- the rows so far and those that are left are all of them
abbrev pub invariant-loop-row : goal.invariant-loop-row
invariant-loop-row l = record {
  rows : l.rows.items ++ l.row-iterator.rest.items ≡ map (λ found. found.1) l.fn.fetched;
  width : HaveWidth 1 l.rows.items;
  short : AreShort l.rows.items;
}
