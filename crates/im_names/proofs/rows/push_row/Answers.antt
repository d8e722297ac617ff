use Rattle.im_names.specs.inner.TargetNumbers.{numbers_of}
use Rattle.im_names.proofs.TargetLemmas.{row_grows}
use Rattle.im_names.proofs.rows.push_row.Goals as goal

pub loop-column-preserved : goal.loop-column-preserved
loop-column-preserved c =
    row_grows c.args.defaults.now (numbers_of c.args.targets.now) c.args.tuple.now c.loop-column.column c.args.values.now.items
    c.loop-column.values.items c.push.new.self.items c.in_ok-value_in.field-0 c.in_ok-value_in.ensures c.in_ok-push.ensures.items
    c.loop-column.invariant
