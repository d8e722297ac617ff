use Rattle.std.proofs.Common.{arith}
use Rattle.std.specs.Arc.{arc_value}
use Rattle.im_scan.proofs.SummedLemmas.{columns-many}
use Rattle.im_scan.proofs.by_code.has_null.Goals as goal

pub column-requires : goal.column-requires
column-requires c =
    let many = columns-many arc_value c.columns.result.now c.args.unit.now c.columns.ensures.values in
    omega (arith, many, c.if-column-columns.false)
