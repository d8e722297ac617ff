use Rattle.std.proofs.Common.{◌++◌, ◌∙◌, ap}
use Rattle.im_names.specs.Rows.{tuple_fault, row_of}
use Rattle.im_names.specs.inner.TargetNumbers.{numbers_of}
use Rattle.im_names.proofs.BlockLemmas.{block_goes}
use Rattle.im_names.proofs.FaultLemmas.{goes_on}
use Rattle.im_names.proofs.TargetLemmas.{row_long}
use Rattle.im_names.proofs.rows.rows_of.Goals as goal

pub loop-tuple-preserved : goal.loop-tuple-preserved
loop-tuple-preserved c =
    let tuple = c.tuple-item.result in
    let numbers = numbers_of c.args.targets.now in
    let width = c.width_of-width.result in
    let defaults = c.values-defaults.result.now in
    let grown = c.in_ok-push_row.ensures
    ∙ ap (λ tuple. c.loop-tuple.values.items ++ row_of width defaults numbers tuple) c.items-in-loop-tuple.ensures in
    let block = block_goes (row_of width defaults numbers) width c.args.tuples.now c.loop-tuple.tuple-index tuple c.loop-tuple.values.items
    c.push_row.new.values.items (row_long defaults numbers tuple width) c.loop-tuple-test.true c.tuple-item.is grown c.loop-tuple.invariant.1
    c.loop-tuple.invariant.2 in (
      goes_on (tuple_fault c.args.table.now.schema numbers) c.args.tuples.now c.loop-tuple.tuple-index tuple c.loop-tuple-test.true
          c.tuple-item.is (rw (← c.items.ensures) c.in_ok-check_tuple.ensures.ok) c.loop-tuple.invariant.0,
      block.0,
      block.1,
    )
