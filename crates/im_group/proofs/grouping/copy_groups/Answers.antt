use Rattle.std.proofs.Common.{◌++◌, map, ap, sym, subst, ◌∙◌}
use Rattle.std.specs.Cmp.Lexicographic.{pointwise}
use Rattle.std.specs.List.{IsDistinct}
use Rattle.std.specs.FinMap as map_of
use Rattle.im_group.specs.Partials.{keyed}
use Rattle.im_group.specs.inner.Steps.{tallies_at}
use Rattle.im_group.proofs.Agreement.{same_value, keys_tie}
use Rattle.im_group.proofs.Held.{not_before, shown, no_more_of, keyed-map}
use Rattle.im_group.proofs.grouping.copy_groups.Goals as goal

pub put_new-requires : goal.put_new-requires
put_new-requires c =
    let gives = c.into_iter-key-iterator.ensures.into_iter_gives ∙ c.iter-key-items.ensures.rest in
    let front = shown (λ e. (e.0.now, e.1.now)) c.into_iter-key-iterator.result c.loop-key.yielded c.loop-key.key-iterator c.loop-key.yielded_by in
    let whole = sym gives ∙ (front ∙ ap (λ l. map (λ e. (e.0.now, e.1.now)) c.loop-key.yielded ++ l) c.in-Some.ensures.steps) in
    let distinct = subst (λ es. IsDistinct (λ x y. pointwise same_value x.items y.items) (map (λ g. g.0) es)) whole c.len.ensures.unique in
    let none = not_before (λ x y. pointwise same_value x.items y.items) (λ k. k.items) (λ x y. keys_tie x.items y.items)
    (map (λ e. (e.0.now, e.1.now)) c.loop-key.yielded) (c.in-Some.key.now, c.in-Some.tallies.now) c.next.new.self distinct in
    let key = c.in_ok-copied.ensures ∙ c.as_slice.ensures.value in
    (λ i. tallies_at ((c.loop-key.invariant ∙ sym (keyed-map (λ k. k.items) (λ e. (e.0.now, e.1.now)) c.loop-key.yielded)) i) (key i)) ∙ none

pub returns : goal.returns
returns c =
    let gives = c.into_iter-key-iterator.ensures.into_iter_gives ∙ c.iter-key-items.ensures.rest in
    let front = shown (λ e. (e.0.now, e.1.now)) c.into_iter-key-iterator.result c.loop-key.yielded c.loop-key.key-iterator c.loop-key.yielded_by in
    let all = sym gives ∙ (front ∙ no_more_of (map (λ e. (e.0.now, e.1.now)) c.loop-key.yielded) c.loop-key.key-iterator c.in-None.ensures.steps.0) in
    ap map_of.from_entries (c.loop-key.invariant
    ∙ (sym (keyed-map (λ k. k.items) (λ e. (e.0.now, e.1.now)) c.loop-key.yielded) ∙ ap (keyed (λ k. k.items)) (sym all)))
