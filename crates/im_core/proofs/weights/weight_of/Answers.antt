use Rattle.std.proofs.Common.{◌+◌, take, sym, ap, ◌∙◌}
use Rattle.im_history.specs.Puts.{lent_change}
use Rattle.im_history.specs.Weights.{changes_weight}
use Rattle.im_core.proofs.WeightLemmas.{changes_weight-found}
use Rattle.im_core.proofs.weights.weight_of.Goals as goal

pub loop-place-preserved : goal.loop-place-preserved
loop-place-preserved c =
    let i = c.loop-place.place in
    let items = c.args.changes.now in
    c.in_ok-sum.ensures
    ∙ (ap (λ n. n + c.in_ok-change_weight.field-0) c.loop-place.invariant
    ∙ (ap (λ n. changes_weight (take i items) + n) c.in_ok-change_weight.ensures
    ∙ sym (changes_weight-found items i (lent_change c.at.result) c.at.ensures)))
