-- The summaries of a group, one after the other.
use Rattle.std.proofs.Common.{◌≡◌, ℕ, zero, suc, ◌+◌, ◌<◌, ◌≤◌, ◌^◌, Bool, true, false, cond, nat_lt, List, [], ◌∷◌, ◌++◌, length, take, drop, set, get_or, refl, sym, ap, ◌∙◌, subst, arith, min}
use Rattle.std.proofs.lemmas.List.{length-append, append_assoc}
use Rattle.std.proofs.lemmas.Bool.Decides.{nat_tests}
use Rattle.std.specs.Iterator.{Yields}
use Rattle.std.specs.Vec.Iter.{into_iter_items, into_iter_steps}
use Rattle.std.specs.declared.vec.IntoIter.{IntoIter}
use Rattle.im_values.specs.declared.content.Content.{Content as Value}
use Rattle.im_group.specs.declared.asked.Asked.{Asked}
use Rattle.im_group.specs.inner.Steps.{joined_at, next_place}
use Rattle.im_group.specs.Sums.{SumsOf, joined}
use Rattle.im_group.specs.Tallies.{each_taken, each_joined, CanJoinEach}

-- so many of the tallies have taken the row
pub record Taking (is : List Asked) (old : List SumsOf) (row : List Value) (i : ℕ) (now : List SumsOf) : Type 0 where
  pub whole : take i now ++ each_taken (drop i is) (drop i now) row ≡ each_taken is old row
  pub rest : drop i now ≡ drop i old
  pub size : length now ≡ length old

pub taking_none : (is : List Asked) (old : List SumsOf) (row : List Value) → Taking is old row 0 old
taking_none is old row = record { whole = refl; rest = refl; size = refl }

drop_nothing : {A : Type 0} (i : ℕ) → drop {A = A} i [] ≡ []
drop_nothing zero = refl
drop_nothing (suc i) = refl

both_parts : {A : Type 0} (xs : List A) (i : ℕ) → take i xs ++ drop i xs ≡ xs
both_parts [] zero = refl
both_parts [] (suc i) = refl
both_parts (x ∷ xs) zero = refl
both_parts (x ∷ xs) (suc i) = ap (λ l. x ∷ l) (both_parts xs i)

no_tally : (is : List Asked) (row : List Value) → each_taken is [] row ≡ []
no_tally [] row = refl
no_tally (x ∷ is) row = refl

-- behind the end of the items or of the tallies nothing is left to take
nothing_left : (is : List Asked) (now : List SumsOf) (row : List Value) (i : ℕ) → min (length is) (length now) ≤ i
    → take i now ++ each_taken (drop i is) (drop i now) row ≡ now
nothing_left [] now row i h = ap (λ is. take i now ++ each_taken is (drop i now) row) (drop_nothing i) ∙ both_parts now i
nothing_left (x ∷ is) [] row i h =
    ap (λ ts. take i [] ++ each_taken (drop i (x ∷ is)) ts row) (drop_nothing i)
    ∙ (ap (λ l. take i [] ++ l) (no_tally (drop i (x ∷ is)) row ∙ sym (drop_nothing i)) ∙ both_parts [] i)
nothing_left (x ∷ is) (t ∷ ts) row zero h = absurd (omega arith)
nothing_left (x ∷ is) (t ∷ ts) row (suc i) h = ap (λ l. t ∷ l) (nothing_left is ts row i (omega arith))

pub taking_all : (is : List Asked) (old : List SumsOf) (row : List Value) (i : ℕ) (now : List SumsOf) → Taking is old row i now
    → min (length is) (length now) ≤ i → now ≡ each_taken is old row
taking_all is old row i now t h = sym (nothing_left is now row i h) ∙ t.whole

-- ---- two parts of a group

joined_none : (ts : List SumsOf) → each_joined ts [] ≡ ts
joined_none [] = refl
joined_none (t ∷ ts) = refl

-- some of the other tallies are joined
pub record Joining (old us : List SumsOf) (place : ℕ) (now : List SumsOf) : Type 0 where
  pub whole : now ≡ each_joined old us
  pub at : place ≡ min (length us) (length old)

length-each_joined : (ts us : List SumsOf) → length (each_joined ts us) ≡ length ts
length-each_joined [] us = refl
length-each_joined (t ∷ ts) [] = refl
length-each_joined (t ∷ ts) (u ∷ us) = ap suc (length-each_joined ts us)

pub joined-push : (ts us : List SumsOf) (u d : SumsOf) → length us < length ts
    → each_joined ts (us ++ u ∷ []) ≡ set (each_joined ts us) (length us) (joined (get_or (each_joined ts us) (length us) d) u)
joined-push [] us u d lt = absurd (omega arith)
joined-push (t ∷ ts) [] u d lt = ap (λ l. joined t u ∷ l) (joined_none ts)
joined-push (t ∷ ts) (v ∷ us) u d lt = ap (λ l. joined t v ∷ l) (joined-push ts us u d (omega arith))

pub joined-push_past : (ts us : List SumsOf) (u : SumsOf) → length ts ≤ length us → each_joined ts (us ++ u ∷ []) ≡ each_joined ts us
joined-push_past [] us u le = refl
joined-push_past (t ∷ ts) [] u le = absurd (omega arith)
joined-push_past (t ∷ ts) (v ∷ us) u le = ap (λ l. joined t v ∷ l) (joined-push_past ts us u (omega arith))

-- the counts of the next two stay below 2^64
pub can_join_next : (ts us : List SumsOf) (u : SumsOf) (more : List SumsOf) (d : SumsOf) → CanJoinEach ts (us ++ u ∷ more) → length us < length ts
    → (get_or (each_joined ts us) (length us) d).values + u.values < 2 ^ 64
can_join_next [] us u more d can lt = absurd (omega arith)
can_join_next (t ∷ ts) [] u more d can lt = can.0
can_join_next (t ∷ ts) (v ∷ us) u more d can lt = can_join_next ts us u more d can.1 (omega arith)

less_test : (n m : ℕ) → n < m → nat_lt n m ≡ true
less_test n m h = grind (arith, nat_tests)

past_test : (n m : ℕ) → m ≤ n → nat_lt n m ≡ false
past_test n m h = grind (arith, nat_tests)

least_left : (n m : ℕ) → n < m → min n m ≡ n
least_left n m h = omega arith

pub joining_next : (old us : List SumsOf) (u : SumsOf) (place : ℕ) (now : List SumsOf) → Joining old us place now
    → Joining old (us ++ u ∷ []) (next_place (length now) place) (joined_at now place u)
joining_next old us u place now j = go (nat_lt (length us) (length old)) refl
  where
    size : length now ≡ length old
    size = ap length j.whole ∙ length-each_joined old us

    go : (b : Bool) → nat_lt (length us) (length old) ≡ b → Joining old (us ++ u ∷ []) (next_place (length now) place) (joined_at now place u)
    go true e =
        let lt : length us < length old = grind (arith, nat_tests) in
        let here : place ≡ length us = j.at ∙ least_left (length us) (length old) lt in
        let test : nat_lt place (length now) ≡ true = less_test place (length now) (omega (arith, size, here, lt)) in
        record {
          whole = ap (λ b. cond b (set now place (joined (get_or now place u) u)) now) test
              ∙ (λ i. set (j.whole i) (here i) (joined (get_or (j.whole i) (here i) u) u))
              ∙ sym (joined-push old us u u lt);
          at = ap (λ b. cond b (place + 1) place) test ∙ omega (arith, length-append us (u ∷ []), here, lt);
        }
    go false e =
        let le : length old ≤ length us = grind (arith, nat_tests) in
        let test : nat_lt place (length now) ≡ false = past_test place (length now) (omega (arith, size, j.at, le)) in
        record {
          whole = ap (λ b. cond b (set now place (joined (get_or now place u) u)) now) test ∙ (j.whole ∙ sym (joined-push_past old us u le));
          at = ap (λ b. cond b (place + 1) place) test ∙ omega (arith, length-append us (u ∷ []), j.at, le);
        }

pub joining_none : (old : List SumsOf) → Joining old [] 0 old
joining_none old = record { whole = sym (joined_none old); at = omega arith }

-- what the iterator of a vector has given is a prefix of its items
pub taken_front : {X A : Type 0} (s : IntoIter X A) (xs : List X) (t : IntoIter X A) → Yields into_iter_steps s xs t
    → into_iter_items s ≡ xs ++ into_iter_items t
taken_front s [] t y = ap into_iter_items y
taken_front s (x ∷ xs) t y = y.1.0 ∙ ap (λ ys. x ∷ ys) (taken_front y.0 xs t y.2)

pub can_join_at : (old us : List SumsOf) (u : SumsOf) (more : List SumsOf) (place : ℕ) (now : List SumsOf) → Joining old us place now
    → CanJoinEach old ((us ++ u ∷ []) ++ more) → place < length now → (get_or now place u).values + u.values < 2 ^ 64
can_join_at old us u more place now j can lt =
    let size : length now ≡ length old = ap length j.whole ∙ length-each_joined old us in
    let at = j.at in
    let here : place ≡ length us = omega arith in
    let inside : length us < length old = omega arith in
    subst (λ n. n + u.values < 2 ^ 64) (sym (λ i. (get_or (j.whole i) (here i) u).values))
    (can_join_next old us u more u (subst (CanJoinEach old) (append_assoc us (u ∷ []) more) can) inside)
