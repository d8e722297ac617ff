-- The build that comes next, from the three lists in order.
use Rattle.std.proofs.Common.{◌≡◌, ◌≤◌, Bool, true, false, [], filter, Option, Some, None, if◌then◌else◌, nat_lt, refl, ◌∙◌, arith}
use Rattle.std.specs.Option.{option_or}
use Rattle.std.proofs.lemmas.Bool.Decides.{nat_tests}
use Rattle.im_history.specs.declared.task.Choice.{Choice}
use Rattle.im_history.specs.Extents.{all_extents}
use Rattle.im_history.specs.History.{History}
use Rattle.im_history.specs.Queue.{choose, credits, is_stale, next, trickles}
use Rattle.im_queue.specs.declared.demand.Demand.{Demand}
use Rattle.im_queue.specs.declared.reason.Reason.TheVariants.{Empty, Due, Stale}
use Rattle.im_queue.specs.Demand.{IsDemand}
use Rattle.im_queue.specs.inner.Search.{first_of_all}
use Rattle.im_queue.proofs.SearchLemmas.{first_of_all-is}

-- the credits that are left are those of the history
pub credits-are : (h : History) (demand : Demand) → IsDemand h demand → credits h ≡ demand.credits
credits-are h demand is = let now = is.credits in omega (arith, now)

-- the extents that a credit may be spent on
trickles-none : (h : History) → credits h ≡ 0 → trickles h ≡ []
trickles-none h none = rw none refl

trickles-some : (h : History) → 1 ≤ credits h → trickles h ≡ filter (is_stale h) (all_extents h)
trickles-some h some = by (nat_lt 0 (credits h)) refl
  where
    by : (b : Bool) → nat_lt 0 (credits h) ≡ b → (if b then filter (is_stale h) (all_extents h) else []) ≡ filter (is_stale h) (all_extents h)
    by true left = refl
    by false left = absurd (grind (arith, nat_tests, left, some))

-- the three lists in order
ordered : History → Option Choice → Option Choice
ordered h last = option_or (first_of_all Empty h) (option_or (first_of_all Due h) last)

next-ordered : (h : History) → next h ≡ option_or (first_of_all Empty h) (option_or (first_of_all Due h) (choose h true (trickles h)))
unfolding next
next-ordered h = rw (first_of_all-is Empty h, first_of_all-is Due h) refl

pub next-empty : (h : History) (choice : Choice) → Some choice ≡ first_of_all Empty h → Some choice ≡ next h
next-empty h choice first = rw (next-ordered h, ← first) refl

pub next-due : (h : History) (choice : Choice) → None ≡ first_of_all Empty h → Some choice ≡ first_of_all Due h → Some choice ≡ next h
next-due h choice first second = rw (next-ordered h, ← first, ← second) refl

pub next-none : (h : History) (demand : Demand) → IsDemand h demand → None ≡ first_of_all Empty h → None ≡ first_of_all Due h → demand.credits ≡ 0
    → None ≡ next h
next-none h demand is first second none = rw (next-ordered h, ← first, ← second, trickles-none h (credits-are h demand is ∙ none)) refl

pub next-stale : (h : History) (demand : Demand) (found : Option Choice) → IsDemand h demand → None ≡ first_of_all Empty h → None ≡ first_of_all Due h
    → 1 ≤ demand.credits → found ≡ first_of_all Stale h → found ≡ next h
next-stale h demand found is first second some third =
    let left : 1 ≤ credits h = rw (credits-are h demand is) some in
    third ∙ (first_of_all-is Stale h ∙ rw (next-ordered h, ← first, ← second, trickles-some h left) refl)
