use Rattle.std.proofs.Common.{[], ◌∷◌, ◌++◌, ◌∙◌, sym, subst}
use Rattle.std.proofs.iter.Next.{Yields-more}
use Rattle.std.specs.Vec.Iter.{into_iter_items, into_iter_steps}
use Rattle.im_group.specs.inner.Steps.{joined_at}
use Rattle.im_group.specs.Tallies.{CanJoinEach}
use Rattle.im_group.proofs.TallyLists.{Joining, joining_none, joining_next, can_join_at, taken_front}
use Rattle.im_group.proofs.tallies.join_each.Goals as goal

pub loop-other-init : goal.loop-other-init
loop-other-init c = joining_none c.args.sums.now.items

pub join_at-place-requires : goal.join_at-place-requires
join_at-place-requires c =
    let done = c.loop-other.yielded in
    let other = c.in-Some.other in
    let start = c.into_iter-other-iterator in
    let more = Yields-more into_iter_steps start.result done c.loop-other.other-iterator other c.next.new.self c.loop-other.yielded_by
    c.in-Some.ensures.steps in
    let front = taken_front start.result (done ++ other ∷ []) c.next.new.self more in
    let whole = sym start.ensures.into_iter_gives.0 ∙ front in
    can_join_at c.args.sums.now.items done other
    (into_iter_items c.next.new.self) c.loop-other.place c.loop-other.sums.items c.loop-other.invariant
    (subst (CanJoinEach c.args.sums.now.items) whole c.requires)

pub loop-other-preserved : goal.loop-other-preserved
loop-other-preserved c =
    subst (λ now. Joining c.args.sums.now.items (c.loop-other.yielded ++ c.in-Some.other ∷ []) c.join_at-place.result now) (sym c.join_at-place.ensures.items)
    (subst (λ n. Joining c.args.sums.now.items (c.loop-other.yielded ++ c.in-Some.other ∷ []) n
    (joined_at c.loop-other.sums.items c.loop-other.place c.in-Some.other)) (sym c.join_at-place.ensures.next)
    (joining_next c.args.sums.now.items c.loop-other.yielded c.in-Some.other c.loop-other.place c.loop-other.sums.items c.loop-other.invariant))
