use Rattle.std.proofs.Common.{is_lt, rules, of_calls}
use Rattle.std.proofs.lemmas.Fn.{always_returns_same}
use Rattle.std.proofs.lemmas.List.Sorted.{ranks_by}
use Rattle.im_values.specs.declared.content.Content.{Content as Value}
use Rattle.im_values.specs.Order.{order}
use Rattle.im_values.proofs.ForCallers.{order_total}
use Rattle.im_syntax.proofs.ChoicesLemmas.{in-order}
use Rattle.im_syntax.proofs.choices.in_order.Goals as goal

pub returns : goal.returns
returns c =
    let up =
    c.sort_unstable_by.ensures.sorted (λ (a : Value) (b : Value). is_lt (order a b)) (ranks_by order_total (λ (v : Value). v))
    (always_returns_same _ _ _ (λ a r f k. search (rules, of_calls))) in
    in-order c.args.values.now c.in_ok-ordered.ordered.items c.sort_unstable_by.new.self.items c.in_ok-ordered.ensures
    c.sort_unstable_by.ensures.permutation up
