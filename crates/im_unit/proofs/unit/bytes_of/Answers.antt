use Rattle.std.proofs.Common.{◌∙◌, ap, arith}
use Rattle.std.specs.Arc.{arc_value}
use Rattle.im_values.specs.Sizes.{column_bytes}
use Rattle.im_unit.proofs.BuildLemmas.{bytes-more, bounded-at}
use Rattle.im_unit.proofs.unit.bytes_of.Goals as goal

pub overflow_add-bytes : goal.overflow_add-bytes
overflow_add-bytes c =
    let one = bounded-at arc_value c.args.columns.now c.loop-column.column-index c.column-item.result c.bytes-bytes.result c.requires.bounded
    c.loop-column-test.true c.column-item.is (c.bytes-bytes.ensures ∙ ap column_bytes c.deref.ensures) in
    omega (arith, one, c.loop-column.invariant.few, c.requires.few, c.loop-column-test.true)

pub loop-column-preserved : goal.loop-column-preserved
loop-column-preserved c =
    let is = c.bytes-bytes.ensures ∙ ap column_bytes c.deref.ensures in
    let one = bounded-at arc_value c.args.columns.now c.loop-column.column-index c.column-item.result c.bytes-bytes.result c.requires.bounded
    c.loop-column-test.true c.column-item.is is in
    record {
      bytes = bytes-more arc_value c.args.columns.now c.loop-column.column-index c.column-item.result c.loop-column.bytes c.bytes-bytes.result
          c.loop-column-test.true c.column-item.is c.loop-column.invariant.bytes is;
      few = omega (arith, one, c.loop-column.invariant.few);
    }

pub returns-clause-few : goal.returns-clause-few
returns-clause-few c = omega (arith, c.loop-column.invariant.few, c.loop-column.auto.column-index-end, c.requires.few)
