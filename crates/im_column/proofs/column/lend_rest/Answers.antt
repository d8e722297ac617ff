use Rattle.std.proofs.Common.{◌+◌, get_or}
use Rattle.im_values.specs.declared.content.Content.TheVariants.{Null}
use Rattle.im_column.proofs.LendLemmas.{lent_to-more}
use Rattle.im_column.proofs.column.lend_rest.Goals as goal

pub loop-k-preserved : goal.loop-k-preserved
loop-k-preserved c =
    lent_to-more (λ k. get_or c.args.values.now (c.args.first + k) Null) c.loop-k.out c.loop-k.k c.value_behind.result c.loop-k-test.true c.value_behind.ensures
    c.loop-k.invariant
