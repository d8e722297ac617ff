-- What is known of the build that comes next.
use Rattle.std.proofs.Common.{◌≡◌, ℕ, zero, suc, ◌+◌, ◌<◌, ◌≤◌, ◌&&◌, Bool, true, false, not, All, List, [], ◌∷◌, length, filter, flat_map, Option, Some, None, is_none, if◌then◌else◌, nat_lt, slice_get, refl, sym, subst, arith}
use Rattle.std.specs.List.{range_with_len}
use Rattle.std.specs.Option.{option_map, option_or}
use Rattle.std.proofs.lemmas.Bool.{false≢true}
use Rattle.std.proofs.lemmas.Bool.Decides.{nat_tests}
use Rattle.std.proofs.lemmas.List.Concat.{flat_map-cons}
use Rattle.std.proofs.lemmas.List.Elements.{All-nil, All-cons, All-head, All-tail, All-append, All-filter, All-map, All-weaker}
use Rattle.im_history.specs.declared.look.TableInfo.{TableInfo}
use Rattle.im_history.specs.declared.task.Choice.{Choice}
use Rattle.im_history.specs.Extents.{Extent, IsExtent, all_extents, extents_of, table_extents}
use Rattle.im_history.specs.History.{History}
use Rattle.im_history.specs.Legal.{Exists}
use Rattle.im_history.specs.Queue.{by_priority, choose, credits, first_extent, has_rank, is_due, is_empty, is_free, is_opened, is_stale, is_wanted, next, populations, priority_of, renewals, trickles, waits, choice_of}
use Rattle.im_history.specs.Tables.{table_at, tables}
use Rattle.im_history.specs.Units.{living}

-- ---- each member of a list

all_range : (P : ℕ → Type 0) (from count : ℕ) → ((i : ℕ) → from ≤ i → i < from + count → P i) → All P (range_with_len from count)
all_range P from zero each = All-nil P
all_range P from (suc count) each =
    All-cons P from (range_with_len (from + 1) count) (each from (omega arith) (omega arith))
    (all_range P (from + 1) count (λ i low high. each i (omega (arith, low)) (omega (arith, high))))

all_flat : {A X : Type 0} (Q : A → Type 0) (P : X → Type 0) (f : A → List X) (members : List A) → ((a : A) → Q a → All P (f a)) → All Q members
    → All P (flat_map f members)
all_flat Q P f [] each all = All-nil P
all_flat Q P f (a ∷ members) each all =
    rw (flat_map-cons f a members)
    (All-append P (f a) (flat_map f members) (each a (All-head Q a members all)) (all_flat Q P f members each (All-tail Q a members all)))

-- a member that passes a test
record Passes {X : Type 0} (P : X → Type 0) (test : X → Bool) (x : X) : Type 0 where
  holds : P x
  passes : test x ≡ true

kept : {X : Type 0} (P : X → Type 0) (test : X → Bool) (x : X) (b : Bool) (rest : List X) → test x ≡ b → P x → All (Passes P test) rest
    → All (Passes P test) (if b then x ∷ rest else rest)
kept P test x true rest is holds all = All-cons (Passes P test) x rest (record { holds = holds; passes = is }) all
kept P test x false rest is holds all = all

all_kept : {X : Type 0} (P : X → Type 0) (test : X → Bool) (members : List X) → All P members → All (Passes P test) (filter test members)
all_kept P test [] all = All-nil (Passes P test)
all_kept P test (x ∷ members) all =
    kept P test x (test x) (filter test members) refl (All-head P x members all) (all_kept P test members (All-tail P x members all))

-- ---- extents

-- each of the extents of all tables is one
pub extents-are : (h : History) → All (λ extent. IsExtent h extent.table extent.number) (all_extents h)
unfolding all_extents
extents-are h =
    all_flat (λ table. (1 ≤ table) × (table ≤ length (tables h))) (λ extent. IsExtent h extent.table extent.number) (table_extents h)
    (range_with_len 1 (length (tables h)))
    (λ table is. All-map (λ (extent : Extent). IsExtent h extent.table extent.number) (λ number. record { table = table; number = number })
    (range_with_len 0 (extents_of h table))
    (all_range (λ number. IsExtent h table number) 0 (extents_of h table)
    (λ number low high. record { first = is.0; last = is.1; within = omega (arith, high) })))
    (all_range (λ table. (1 ≤ table) × (table ≤ length (tables h))) 1 (length (tables h))
    (λ table low high. (low, omega (arith, high))))

all-by_priority : (P : Extent → Type 0) (h : History) (extents : List Extent) → All P extents → All P (by_priority h extents)
all-by_priority P h extents all =
    all_flat (λ rank. Unit {0}) P (λ rank. filter (λ extent. has_rank rank (priority_of (table_at h extent.table))) extents) (range_with_len 0 5)
    (λ rank is. All-filter (λ extent. has_rank rank (priority_of (table_at h extent.table))) P extents all)
    (all_range (λ rank. Unit {0}) 0 5 (λ i low high. tt))

-- the first of them is so
record IsChosen (P : Extent → Type 0) (trickle : Bool) (choice : Choice) : Type 0 where
  extent : Extent
  is : P extent
  same : choice ≡ choice_of trickle extent

no_choice : {choice : Choice} → None ≡ Some choice → ⊥
no_choice is = cc

of_some : {a b : Choice} → Some a ≡ Some b → b ≡ a
of_some is = cc

first-chosen : (P : Extent → Type 0) (trickle : Bool) (choice : Choice) (extents : List Extent) → All P extents
    → option_map (choice_of trickle) (first_extent extents) ≡ Some choice → IsChosen P trickle choice
first-chosen P trickle choice [] all is = absurd (no_choice is)
first-chosen P trickle choice (extent ∷ extents) all is =
    record { extent = extent; is = All-head P extent extents all; same = of_some is }

choose-is : (P : Extent → Type 0) (h : History) (trickle : Bool) (choice : Choice) (extents : List Extent) → All P extents
    → choose h trickle extents ≡ Some choice → IsChosen P trickle choice
choose-is P h trickle choice extents all is = first-chosen P trickle choice (by_priority h extents) (all-by_priority P h extents all) is

-- ---- the build that comes next

-- an extent that may be built: a table has it, and it has no living build
record MayBegin (h : History) (extent : Extent) : Type 0 where
  within : IsExtent h extent.table extent.number
  free : is_free h extent ≡ true

-- the build that comes next is of an extent of a table, which has no living build. Where a credit is spent on it there is one
pub record IsNext (h : History) (choice : Choice) : Type 0 where
  pub within : IsExtent h choice.table choice.extent
  pub exists : Exists h choice.table
  pub alone : living h choice.table choice.extent ≡ None
  pub rested : waits h choice.table choice.extent ≡ false
  pub paid : choice.trickle ≡ true → 1 ≤ credits h

both : (a b : Bool) → (a && b) ≡ true → (a ≡ true) × (b ≡ true)
both true b is = (refl, is)
both false b is = absurd (false≢true is)

no_one : (living : Option ℕ) → is_none living ≡ true → living ≡ None
no_one None is = refl
no_one (Some id) is = absurd (false≢true is)

denied : (b : Bool) → not b ≡ true → b ≡ false
denied true is = absurd (false≢true is)
denied false is = refl

-- a table stands there
record Stands (found : Option TableInfo) : Type 0 where
  made : TableInfo
  is : found ≡ Some made

stands : (ts : List TableInfo) (place : ℕ) → place < length ts → Stands (slice_get ts place)
stands [] place last = absurd (omega (arith, last))
stands (t ∷ ts) zero last = record { made = t; is = refl }
stands (t ∷ ts) (suc place) last = stands ts place (omega (arith, last))

exists-at : (h : History) (table : ℕ) → 1 ≤ table → table ≤ length (tables h) → Exists h table
exists-at h zero first last = absurd (omega (arith, first))
exists-at h (suc before) first last = let one = stands (tables h) before (omega (arith, last)) in record { made = one.made; is = one.is }

of-free : (h : History) (choice : Choice) (trickle : Bool) → IsChosen (MayBegin h) trickle choice → (trickle ≡ true → 1 ≤ credits h) → IsNext h choice
of-free h choice trickle chosen paid = by chosen.extent chosen.is chosen.same
  where
    by : (extent : Extent) → MayBegin h extent → choice ≡ choice_of trickle extent → IsNext h choice
    by extent may same =
        let parts = both (is_none (living h extent.table extent.number)) (not (waits h extent.table extent.number)) may.free in
        subst (IsNext h) (sym same) (record {
          within = may.within;
          exists = exists-at h extent.table may.within.first may.within.last;
          alone = no_one (living h extent.table extent.number) parts.0;
          rested = denied (waits h extent.table extent.number) parts.1;
          paid = paid;
        })

-- the extents of a list, which pass its test, may be built
listed : (h : History) (test : Extent → Bool) → ((extent : Extent) → test extent ≡ true → is_free h extent ≡ true)
    → All (MayBegin h) (filter test (all_extents h))
listed h test frees =
    All-weaker (Passes (λ extent. IsExtent h extent.table extent.number) test) (MayBegin h)
    (λ extent passes. record { within = passes.holds; free = frees extent passes.passes }) (filter test (all_extents h))
    (all_kept (λ extent. IsExtent h extent.table extent.number) test (all_extents h) (extents-are h))

populated : (h : History) → All (MayBegin h) (populations h)
populated h = listed h (is_empty h)
    (λ extent passes. (both (is_free h extent) _ (both (is_wanted (priority_of (table_at h extent.table)) (is_opened h extent.table)) _ passes).1).0)

renewed : (h : History) → All (MayBegin h) (renewals h)
renewed h = listed h (is_due h) (λ extent passes. (both (is_free h extent) _ passes).0)

stale-listed : (h : History) → All (MayBegin h) (filter (is_stale h) (all_extents h))
stale-listed h = listed h (is_stale h) (λ extent passes. (both (is_free h extent) _ passes).0)

-- the choice among these is so, credits being left where one is spent
chosen : (h : History) (trickle : Bool) (extents : List Extent) (choice : Choice) → All (MayBegin h) extents → (trickle ≡ true → 1 ≤ credits h)
    → choose h trickle extents ≡ Some choice → IsNext h choice
chosen h trickle extents choice all paid is = of-free h choice trickle (choose-is (MayBegin h) h trickle choice extents all is) paid

trickled-is : (h : History) (choice : Choice) → choose h true (trickles h) ≡ Some choice → IsNext h choice
trickled-is h choice is = by (nat_lt 0 (credits h)) refl is
  where
    by : (left : Bool) → nat_lt 0 (credits h) ≡ left
        → choose h true (if left then filter (is_stale h) (all_extents h) else []) ≡ Some choice → IsNext h choice
    by true same is = chosen h true (filter (is_stale h) (all_extents h)) choice (stale-listed h) (λ marked. grind (arith, nat_tests, same)) is
    by false same is = chosen h true [] choice (All-nil (MayBegin h)) (λ marked. grind (arith, nat_tests, same)) is

unpaid : {X : Type 0} → false ≡ true → X
unpaid is = absurd (false≢true is)

either : (h : History) (choice : Choice) (one other : Option Choice) → (one ≡ Some choice → IsNext h choice) → (other ≡ Some choice → IsNext h choice)
    → option_or one other ≡ Some choice → IsNext h choice
either h choice None other first second is = second is
either h choice (Some found) other first second is = first is

pub next-is : (h : History) (choice : Choice) → next h ≡ Some choice → IsNext h choice
unfolding next
next-is h choice is =
    either h choice (choose h false (populations h)) (option_or (choose h false (renewals h)) (choose h true (trickles h)))
    (chosen h false (populations h) choice (populated h) unpaid)
    (either h choice (choose h false (renewals h)) (choose h true (trickles h)) (chosen h false (renewals h) choice (renewed h) unpaid)
    (trickled-is h choice)) is
