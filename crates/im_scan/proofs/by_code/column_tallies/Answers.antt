use Rattle.std.proofs.Common.{arith}
use Rattle.std.specs.Arc.{arc_value}
use Rattle.im_scan.proofs.SummedLemmas.{column-long, columns-many}
use Rattle.im_scan.proofs.by_code.column_tallies.Goals as goal

pub column-requires : goal.column-requires
column-requires c =
    let many = columns-many arc_value c.columns.result.now c.args.unit.now c.columns.ensures.values in
    omega (arith, many, c.if-asked-columns.false)

pub tallies_by_code-requires-clause-column : goal.tallies_by_code-requires-clause-column
tallies_by_code-requires-clause-column c =
    column-long c.args.asked.column c.args.unit.now.rows c.column.result.now c.args.spots.now c.column.ensures c.requires.spots
