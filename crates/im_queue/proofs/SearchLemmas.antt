-- A search by rank, by table and by extent finds what is chosen of the list of all extents.
use Rattle.std.proofs.Common.{◌≡◌, ℕ, zero, suc, ◌+◌, ◌-◌, ◌*◌, ◌<◌, ◌≤◌, Bool, true, false, List, [], ◌∷◌, ◌++◌, length, filter, map, flat_map, Option, Some, None, if◌then◌else◌, refl, sym, ap, ◌∙◌, arith, ⊎_elim}
use Rattle.std.specs.Int.{div_ceil}
use Rattle.std.specs.List.{range_with_len}
use Rattle.std.specs.Option.{option_map, option_or}
use Rattle.std.proofs.Math.Nat.{div-eq_of_lt-le}
use Rattle.std.proofs.lemmas.Bool.{cases_eq}
use Rattle.std.proofs.lemmas.Grind.{div_ceil_times}
use Rattle.std.proofs.lemmas.List.Concat.{flat_map-cons}
use Rattle.std.proofs.lemmas.List.Elements.{filter-append}
use Rattle.im_history.specs.Extents.{Extent, all_extents, extents_of, table_extents}
use Rattle.im_history.specs.Grid.{extents_for}
use Rattle.im_history.specs.History.{History}
use Rattle.im_history.specs.Queue.{choice_of, choose, first_extent, has_rank, priority_of}
use Rattle.im_history.specs.Tables.{table_at, tables}
use Rattle.im_queue.specs.declared.reason.Reason.{Reason}
use Rattle.im_queue.specs.inner.Search.{extent_at, first_in, first_of_all, first_of_rank, first_some, is_listed, is_trickle, ranked_in}

-- ---- the first of several

option_map-or : {X Y : Type 0} (f : X → Y) (one other : Option X) → option_map f (option_or one other) ≡ option_or (option_map f one) (option_map f other)
option_map-or f None other = refl
option_map-or f (Some x) other = refl

option_map-first : {X Y : Type 0} (f : X → Y) (found : ℕ → Option X) (ns : List ℕ)
    → option_map f (first_some found ns) ≡ first_some (λ n. option_map f (found n)) ns
option_map-first f found [] = refl
option_map-first f found (n ∷ ns) =
    option_map-or f (found n) (first_some found ns) ∙ ap (option_or (option_map f (found n))) (option_map-first f found ns)

first_some-same : {X : Type 0} (one other : ℕ → Option X) → ((n : ℕ) → one n ≡ other n) → (ns : List ℕ) → first_some one ns ≡ first_some other ns
first_some-same one other same [] = refl
first_some-same one other same (n ∷ ns) = rw (same n, first_some-same one other same ns) refl

-- nothing is found at any of the numbers
pub first_some-none : {X : Type 0} (found : ℕ → Option X) (from count : ℕ) → ((n : ℕ) → from ≤ n → n < from + count → found n ≡ None)
    → first_some found (range_with_len from count) ≡ None
first_some-none found from zero none = refl
first_some-none found from (suc count) none =
    rw (none from (omega arith) (omega arith))
    (first_some-none found (from + 1) count (λ n low high. none n (omega (arith, low)) (omega (arith, high))))

-- something is found at one of the numbers, and nothing before
pub first_some-found : {X : Type 0} (found : ℕ → Option X) (from count at : ℕ) (x : X) → from ≤ at → at < from + count
    → ((n : ℕ) → from ≤ n → n < at → found n ≡ None) → found at ≡ Some x → first_some found (range_with_len from count) ≡ Some x
first_some-found found from zero at x low high none is = absurd (omega (arith, low, high))
first_some-found found from (suc count) at x low high none is =
    ⊎_elim (λ (here : from ≡ at). rw (ap found here ∙ is) refl)
    (λ (apart : from ≡ at → ⊥).
    let behind : from < at = grind (arith, apart, low) in
    rw (none from (omega arith) behind)
    (first_some-found found (from + 1) count at x (omega (arith, behind)) (omega (arith, high)) (λ n first last. none n (omega (arith, first)) last) is))
    (cases_eq from at)

-- ---- the first extent

first_extent-append : (xs ys : List Extent) → first_extent (xs ++ ys) ≡ option_or (first_extent xs) (first_extent ys)
first_extent-append [] ys = refl
first_extent-append (x ∷ xs) ys = refl

first_extent-flat : (f : ℕ → List Extent) (ns : List ℕ) → first_extent (flat_map f ns) ≡ first_some (λ n. first_extent (f n)) ns
first_extent-flat f [] = refl
first_extent-flat f (n ∷ ns) =
    ap first_extent (flat_map-cons f n ns)
    ∙ (first_extent-append (f n) (flat_map f ns) ∙ ap (option_or (first_extent (f n))) (first_extent-flat f ns))

filter-flat : (test : Extent → Bool) (f : ℕ → List Extent) (ns : List ℕ) → filter test (flat_map f ns) ≡ flat_map (λ n. filter test (f n)) ns
filter-flat test f [] = refl
filter-flat test f (n ∷ ns) =
    ap (filter test) (flat_map-cons f n ns)
    ∙ (filter-append test (f n) (flat_map f ns)
    ∙ (ap (λ (xs : List Extent). filter test (f n) ++ xs) (filter-flat test f ns) ∙ sym (flat_map-cons (λ n. filter test (f n)) n ns)))

-- what is found at a number: the extent of that number, if it passes
abbrev passing : (Extent → Bool) → ℕ → ℕ → Option Extent
passing test table n = if test (extent_at table n) then Some (extent_at table n) else None

first_extent-if : (b : Bool) (x : Extent) (xs : List Extent)
    → first_extent (if b then x ∷ xs else xs) ≡ option_or (if b then Some x else None) (first_extent xs)
first_extent-if true x xs = refl
first_extent-if false x xs = refl

first_extent-passing : (test : Extent → Bool) (table : ℕ) (ns : List ℕ)
    → first_extent (filter test (map (extent_at table) ns)) ≡ first_some (passing test table) ns
first_extent-passing test table [] = refl
first_extent-passing test table (n ∷ ns) =
    first_extent-if (test (extent_at table n)) (extent_at table n) (filter test (map (extent_at table) ns))
    ∙ ap (option_or (passing test table n)) (first_extent-passing test table ns)

passing-none : (test : Extent → Bool) (table count : ℕ) → ((n : ℕ) → n < count → test (extent_at table n) ≡ false)
    → first_extent (filter test (map (extent_at table) (range_with_len 0 count))) ≡ None
passing-none test table count none =
    first_extent-passing test table (range_with_len 0 count)
    ∙ first_some-none (passing test table) 0 count (λ n low high. rw (none n (omega (arith, high))) refl)

passing-found : (test : Extent → Bool) (table count at : ℕ) → at < count → test (extent_at table at) ≡ true
    → ((n : ℕ) → n < at → test (extent_at table n) ≡ false)
    → first_extent (filter test (map (extent_at table) (range_with_len 0 count))) ≡ Some (extent_at table at)
passing-found test table count at within is none =
    first_extent-passing test table (range_with_len 0 count)
    ∙ first_some-found (passing test table) 0 count at (extent_at table at) (omega arith) (omega (arith, within))
    (λ n low high. rw (none n high) refl) (rw is refl)

-- no extent of a table passes
pub first_in-none : (reason : Reason) (h : History) (table : ℕ)
    → ((n : ℕ) → n < extents_of h table → is_listed reason h (extent_at table n) ≡ false) → first_in reason h table ≡ None
first_in-none reason h table none = passing-none (is_listed reason h) table (extents_of h table) none

-- an extent of a table passes, and none before it
pub first_in-found : (reason : Reason) (h : History) (table at : ℕ) → at < extents_of h table → is_listed reason h (extent_at table at) ≡ true
    → ((n : ℕ) → n < at → is_listed reason h (extent_at table n) ≡ false) → first_in reason h table ≡ Some (extent_at table at)
first_in-found reason h table at within is none = passing-found (is_listed reason h) table (extents_of h table) at within is none

-- ---- by rank

-- the extents of a table all have its rank
all_ranked : (ranks test : Extent → Bool) (table : ℕ) (ns : List ℕ) → ((n : ℕ) → ranks (extent_at table n) ≡ true)
    → filter ranks (filter test (map (extent_at table) ns)) ≡ filter test (map (extent_at table) ns)
all_ranked ranks test table [] all = refl
all_ranked ranks test table (n ∷ ns) all = by (test (extent_at table n)) (filter test (map (extent_at table) ns)) (all_ranked ranks test table ns all)
  where
    by : (b : Bool) (rest : List Extent) → filter ranks rest ≡ rest
        → filter ranks (if b then extent_at table n ∷ rest else rest) ≡ (if b then extent_at table n ∷ rest else rest)
    by true rest same = rw (all n, same) refl
    by false rest same = same

none_ranked : (ranks test : Extent → Bool) (table : ℕ) (ns : List ℕ) → ((n : ℕ) → ranks (extent_at table n) ≡ false)
    → filter ranks (filter test (map (extent_at table) ns)) ≡ []
none_ranked ranks test table [] none = refl
none_ranked ranks test table (n ∷ ns) none = by (test (extent_at table n)) (filter test (map (extent_at table) ns)) (none_ranked ranks test table ns none)
  where
    by : (b : Bool) (rest : List Extent) → filter ranks rest ≡ [] → filter ranks (if b then extent_at table n ∷ rest else rest) ≡ []
    by true rest same = rw (none n) same
    by false rest same = same

-- the extents of a table that pass, where it has a rank
ranked_table : (b : Bool) (reason : Reason) (h : History) (rank table : ℕ) → has_rank rank (priority_of (table_at h table)) ≡ b
    → option_map (choice_of (is_trickle reason))
    (first_extent (filter (λ extent. has_rank rank (priority_of (table_at h extent.table))) (filter (is_listed reason h) (table_extents h table))))
    ≡ (if b then option_map (choice_of (is_trickle reason)) (first_in reason h table) else None)
ranked_table true reason h rank table is =
    ap (λ (extents : List Extent). option_map (choice_of (is_trickle reason)) (first_extent extents))
    (all_ranked (λ extent. has_rank rank (priority_of (table_at h extent.table))) (is_listed reason h) table (range_with_len 0 (extents_of h table)) (λ n. is))
ranked_table false reason h rank table is =
    ap (λ (extents : List Extent). option_map (choice_of (is_trickle reason)) (first_extent extents))
    (none_ranked (λ extent. has_rank rank (priority_of (table_at h extent.table))) (is_listed reason h) table (range_with_len 0 (extents_of h table)) (λ n. is))

ranked-is : (reason : Reason) (h : History) (rank : ℕ)
    → option_map (choice_of (is_trickle reason))
    (first_extent (filter (λ extent. has_rank rank (priority_of (table_at h extent.table))) (filter (is_listed reason h) (all_extents h))))
    ≡ first_of_rank reason h rank
unfolding all_extents
ranked-is reason h rank =
    let ranks : Extent → Bool = λ extent. has_rank rank (priority_of (table_at h extent.table)) in
    let ts : List ℕ = range_with_len 1 (length (tables h)) in
    let listed : ℕ → List Extent = λ table. filter (is_listed reason h) (table_extents h table) in
    ap (λ (extents : List Extent). option_map (choice_of (is_trickle reason)) (first_extent (filter ranks extents)))
    (filter-flat (is_listed reason h) (table_extents h) ts)
    ∙ (ap (λ (extents : List Extent). option_map (choice_of (is_trickle reason)) (first_extent extents)) (filter-flat ranks listed ts)
    ∙ (ap (option_map (choice_of (is_trickle reason))) (first_extent-flat (λ table. filter ranks (listed table)) ts)
    ∙ (option_map-first (choice_of (is_trickle reason)) (λ table. first_extent (filter ranks (listed table))) ts
    ∙ first_some-same (λ table. option_map (choice_of (is_trickle reason)) (first_extent (filter ranks (listed table)))) (ranked_in reason h rank)
    (λ table. ranked_table (has_rank rank (priority_of (table_at h table))) reason h rank table refl) ts)))

-- the search by rank, by table and by extent finds the most urgent extent
pub first_of_all-is : (reason : Reason) (h : History)
    → first_of_all reason h ≡ choose h (is_trickle reason) (filter (is_listed reason h) (all_extents h))
first_of_all-is reason h =
    let ranked : ℕ → List Extent =
    λ rank. filter (λ extent. has_rank rank (priority_of (table_at h extent.table))) (filter (is_listed reason h) (all_extents h)) in
    sym
    (ap (option_map (choice_of (is_trickle reason))) (first_extent-flat ranked (range_with_len 0 5))
    ∙ (option_map-first (choice_of (is_trickle reason)) (λ rank. first_extent (ranked rank)) (range_with_len 0 5)
    ∙ first_some-same (λ rank. option_map (choice_of (is_trickle reason)) (first_extent (ranked rank))) (first_of_rank reason h) (ranked-is reason h)
    (range_with_len 0 5)))

-- ---- how many extents so many row numbers fill

one_more : (n per : ℕ) → (n + 1) * per ≡ n * per + per
one_more n per = grind arith

pub div_ceil-is : (rows per : ℕ) → 1 ≤ per → div_ceil rows per ≡ extents_for rows per
div_ceil-is rows per some =
    let bounds = div_ceil_times rows per (omega (arith, some)) in
    let enough = bounds.0 in
    let few = bounds.1 in
    let next = one_more (div_ceil rows per) per in
    sym (div-eq_of_lt-le {k = div_ceil rows per} per {m = rows + per - 1} (omega (arith, few)) (omega (arith, enough, next, some)))
