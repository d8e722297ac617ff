use Rattle.std.proofs.Common.{length, ap, arith}
use Rattle.std.specs.Arc.{arc_value}
use Rattle.im_unit.proofs.ReadLemmas.{long-at}
use Rattle.im_unit.proofs.reading.piece_for.Goals as goal

pub get-requires : goal.get-requires
get-requires c =
    let long = long-at arc_value c.args.columns.now c.args.count c.loop-column.column-index c.column-item.result c.requires.long c.loop-column-test.true
    c.column-item.is in
    omega (arith, ap length c.deref.ensures, long, c.requires.some)
