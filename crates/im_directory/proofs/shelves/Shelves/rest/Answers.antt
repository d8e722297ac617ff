use Rattle.std.proofs.Common.{◌≤◌}
use Rattle.im_directory.proofs.RestLemmas.{AreRested-all, NoneBefore-all, NoneBefore-next, RestsSome-trans}
use Rattle.im_directory.proofs.shelves.Shelves.rest.Goals as goal

pub loop-table-preserved : goal.loop-table-preserved
loop-table-preserved g c = record {
  some = RestsSome-trans _ _ _ c.loop-table.invariant.some c.rest_table.ensures.some;
  none = NoneBefore-next _ _ c.loop-table.table c.rest_table.ensures.some c.rest_table.ensures.none c.loop-table.invariant.none;
}

pub returns : goal.returns
returns g c =
    let last : c.tables-table-end.result ≤ c.loop-table.table = c.loop-table-test.false in
    AreRested-all _ _ c.tables-table-end.result c.tables-table-end.ensures.none c.loop-table.invariant.some
    (NoneBefore-all _ _ _ last c.loop-table.invariant.none)
