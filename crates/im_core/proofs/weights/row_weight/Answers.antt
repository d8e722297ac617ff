use Rattle.std.proofs.Common.{◌+◌, take, sym, ap, ◌∙◌}
use Rattle.im_history.specs.Weights.{value_weight, row_weight}
use Rattle.im_core.proofs.WeightLemmas.{row_weight-next}
use Rattle.im_core.proofs.weights.row_weight.Goals as goal

pub loop-value-preserved : goal.loop-value-preserved
loop-value-preserved c =
    let i = c.loop-value.value-index in
    let items = c.args.values.now in
    c.in_ok-sum.ensures
    ∙ (ap (λ n. n + c.in_ok-value_weight.field-0) c.loop-value.invariant
    ∙ (ap (λ n. row_weight (take i items) + n) (c.in_ok-value_weight.ensures ∙ ap value_weight c.value-item.is)
    ∙ sym (row_weight-next items i c.value-item.result c.loop-value-test.true)))
