use Rattle.std.proofs.Common.{Bool, Vec, Global, is_lt, rules, of_calls}
use Rattle.std.proofs.lemmas.Fn.{always_returns_same}
use Rattle.std.proofs.lemmas.List.Sorted.{ranks_by}
use Rattle.im_values.specs.declared.content.Content.{Content as Value}
use Rattle.im_group.specs.Tallies.{Tallied}
use Rattle.im_group.specs.inner.Holding.{entry_order}
use Rattle.im_group.proofs.KeySort.{by_key_total}
use Rattle.im_group.proofs.Sorting.{sorted_is-in_order}
use Rattle.im_group.proofs.partial.sort_groups.Goals as goal

abbrev Entry : Type 0
Entry = Vec Value Global × Tallied

pub returns : goal.returns
returns c =
    let total = by_key_total (λ (k : Vec Value Global). k.items) in
    let less : Entry → Entry → Bool = λ a b. is_lt (entry_order a b) in
    let weak = ranks_by total (λ (e : Entry). e) in
    sorted_is-in_order entry_order total c.args.groups.now.entries c.sort_by.new.self.entries
    (c.in_ok-sort_by.ensures.sorted less weak (always_returns_same _ _ _ (λ a r f k. search (rules, of_calls))))
    (c.in_ok-sort_by.ensures.stable less weak (always_returns_same _ _ _ (λ a r f k. search (rules, of_calls))))
