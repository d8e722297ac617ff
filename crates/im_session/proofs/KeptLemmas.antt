-- The cursors that a session keeps, as a list: one is found by its number, goes on, is taken away, or comes to the others.
use Rattle.std.proofs.Common.{◌≡◌, ℕ, zero, suc, ◌+◌, ◌==◌, ◌<◌, ◌||◌, Bool, true, false, not, if◌then◌else◌, List, [], ◌∷◌, ◌++◌, length, map, filter, Option, Some, None, refl, sym, ap, ◌∙◌, subst, arith}
use Rattle.std.specs.List.{AllByRecursion, find, list_any, position, position_or_len}
use Rattle.std.specs.Prelude.{nat_lt, slice_get, slice_index_or, slice_set}
use Rattle.std.proofs.lemmas.Bool.Decides.{nat_tests}
use Rattle.im_history.specs.Cursors.{Opened, is_cursor}
use Rattle.im_session.specs.declared.cursor.Cursor.{Cursor}
use Rattle.im_session.specs.Cursors.{query_of}
use Rattle.im_session.specs.Sessions.{AreApart, state_of}
use Rattle.im_session.specs.inner.Cursors.{query_after}
use Rattle.im_session.specs.inner.Running.{is_number}
use Rattle.im_session.proofs.OtherLemmas.{itself}
use Rattle.im_statements.specs.Agreement.{AreQueriesOf}
use Rattle.im_statements.specs.Outcomes.{OpenQuery, is_query, query_at, stepped}

-- ---- one is found

-- this stands at a place, the first with a number
pub record IsFound (number : ℕ) (cursors : List Cursor) (at : ℕ) : Type 0 where
  pub kept : Cursor
  pub is : slice_get cursors at ≡ Some kept
  pub inside : at < length cursors
  pub same : kept.number ≡ number
  pub query : find (is_query number) (map query_of cursors) ≡ Some (query_of kept)

same-number : (a b : ℕ) → (a == b) ≡ true → a ≡ b
same-number a b is = grind (arith, nat_tests, is)

found-first : (number : ℕ) (cursors : List Cursor) → nat_lt (position_or_len (is_number number) cursors) (length cursors) ≡ true
    → IsFound number cursors (position_or_len (is_number number) cursors)
found-first number [] inside = absurd cc
found-first number (kept ∷ others) inside = by (is_number number kept) refl inside (λ within. found-first number others within)
  where
    at : Bool → ℕ
    at b = if not b then 1 + position_or_len (is_number number) others else 0

    by : (b : Bool) → is_number number kept ≡ b → nat_lt (at b) (length (kept ∷ others)) ≡ true
        → (nat_lt (position_or_len (is_number number) others) (length others) ≡ true
        → IsFound number others (position_or_len (is_number number) others))
        → IsFound number (kept ∷ others) (at b)
    by true is within on = record {
      kept = kept;
      is = refl;
      inside = omega arith;
      same = same-number kept.number number is;
      query = rw is refl;
    }
    by false is within on =
        let later = on (grind (arith, nat_tests, within)) in
        subst (IsFound number (kept ∷ others)) (let one : suc (position_or_len (is_number number) others)
        ≡ 1 + position_or_len (is_number number) others = omega arith in one)
        (record {
          kept = later.kept;
          is = later.is;
          inside = let below = later.inside in omega (arith, below);
          same = later.same;
          query = rw is later.query;
        })

pub found : (number : ℕ) (cursors : List Cursor) (at : ℕ) → position (is_number number) cursors ≡ Some at → IsFound number cursors at
found number cursors at is = by (nat_lt (position_or_len (is_number number) cursors) (length cursors)) refl is
  where
    first : ℕ
    first = position_or_len (is_number number) cursors

    some-inj : {a b : ℕ} → Some a ≡ Some b → a ≡ b
    some-inj e = cc

    by : (b : Bool) → nat_lt first (length cursors) ≡ b → (if b then Some first else None) ≡ Some at → IsFound number cursors at
    by true inside e = subst (IsFound number cursors) (some-inj e) (found-first number cursors inside)
    by false inside e = absurd cc

-- what a call says of a place
pub at-place : (number : ℕ) (listed cursors : List Cursor) (place : Option ℕ) (at : ℕ) → listed ≡ cursors → place ≡ position (is_number number) listed
    → place ≡ Some at → IsFound number cursors at
at-place number listed cursors place at same is there =
    found number cursors at (subst (λ (cs : List Cursor). position (is_number number) cs ≡ Some at) same (sym is ∙ there))

pub kept-at : (cursors : List Cursor) (at : ℕ) (kept now : Cursor) → slice_get cursors at ≡ Some kept → now ≡ slice_index_or cursors at now → now ≡ kept
kept-at [] at kept now is value = absurd cc
kept-at (first ∷ others) zero kept now is value = value ∙ some-inj is
  where
    some-inj : {a b : Cursor} → Some a ≡ Some b → a ≡ b
    some-inj e = cc
kept-at (first ∷ others) (suc at) kept now is value = kept-at others at kept now is value

-- none is found
missing-first : (number : ℕ) (cursors : List Cursor) → nat_lt (position_or_len (is_number number) cursors) (length cursors) ≡ false
    → find (is_query number) (map query_of cursors) ≡ None
missing-first number [] outside = refl
missing-first number (kept ∷ others) outside = by (is_number number kept) outside (λ past. missing-first number others past)
  where
    by : (b : Bool) → nat_lt (if not b then 1 + position_or_len (is_number number) others else 0) (length (kept ∷ others)) ≡ false
        → (nat_lt (position_or_len (is_number number) others) (length others) ≡ false → find (is_query number) (map query_of others) ≡ None)
        → (if b then Some (query_of kept) else find (is_query number) (map query_of others)) ≡ None
    by true past on = absurd (grind (arith, nat_tests, past))
    by false past on = on (grind (arith, nat_tests, past))

pub missing : (number : ℕ) (cursors : List Cursor) → position (is_number number) cursors ≡ None → query_at (state_of cursors) number ≡ None
missing number cursors is = by (nat_lt (position_or_len (is_number number) cursors) (length cursors)) refl is
  where
    by : (b : Bool) → nat_lt (position_or_len (is_number number) cursors) (length cursors) ≡ b
        → (if b then Some (position_or_len (is_number number) cursors) else None) ≡ None → query_at (state_of cursors) number ≡ None
    by true inside e = absurd cc
    by false inside e = missing-first number cursors inside

pub no-place : (number : ℕ) (listed cursors : List Cursor) (place : Option ℕ) → listed ≡ cursors → place ≡ position (is_number number) listed
    → place ≡ None → query_at (state_of cursors) number ≡ None
no-place number listed cursors place same is none =
    missing number cursors (subst (λ (cs : List Cursor). position (is_number number) cs ≡ None) same (sym is ∙ none))

-- ---- it is open

pub find-open : (number : ℕ) (queries : List OpenQuery) (cursors : List Opened) (query : OpenQuery) → AreQueriesOf queries cursors
    → find (is_query number) queries ≡ Some query → find (is_cursor number) cursors ≡ Some (record { cursor = query.cursor; view = query.view })
find-open number [] cursors query are is = absurd cc
find-open number (q ∷ qs) [] query are is = absurd are
find-open number (q ∷ qs) (c ∷ cs) query are is =
    by (is_query number q) (is_cursor number c) (ap (λ (n : ℕ). n == number) (sym are.0.same)) is (λ e. find-open number qs cs query are.1 e)
  where
    some-inj : {a b : OpenQuery} → Some a ≡ Some b → a ≡ b
    some-inj e = cc

    by : (this that : Bool) → that ≡ this → (if this then Some q else find (is_query number) qs) ≡ Some query
        → (find (is_query number) qs ≡ Some query
        → find (is_cursor number) cs ≡ Some (record { cursor = query.cursor; view = query.view }))
        → (if that then Some c else find (is_cursor number) cs) ≡ Some (record { cursor = query.cursor; view = query.view })
    by true that same e on =
        rw same
        (subst (λ (asked : OpenQuery). Some c ≡ Some (record { cursor = asked.cursor; view = asked.view })) (some-inj e)
        (rw (are.0.same, are.0.view) refl))
    by false that same e on = rw same (on e)

pub found-any : (number : ℕ) (cursors : List Opened) (cursor : Opened) → find (is_cursor number) cursors ≡ Some cursor
    → list_any (is_cursor number) cursors ≡ true
found-any number [] cursor is = absurd cc
found-any number (c ∷ cs) cursor is = by (is_cursor number c) is (λ e. found-any number cs cursor e)
  where
    by : (b : Bool) → (if b then Some c else find (is_cursor number) cs) ≡ Some cursor
        → (find (is_cursor number) cs ≡ Some cursor → list_any (is_cursor number) cs ≡ true) → (b || list_any (is_cursor number) cs) ≡ true
    by true e on = refl
    by false e on = on e

-- ---- it goes on

module _ (number : ℕ) where
  -- a cursor of another number
  stepped-other : (kept : Cursor) → (kept.number == number) ≡ false → stepped number (query_of kept) ≡ query_of kept
  stepped-other kept other = rw other refl

  others-stay : (cursors : List Cursor) → AllByRecursion (λ other. (other.number == number) ≡ false) cursors
      → map (stepped number) (map query_of cursors) ≡ map query_of cursors
  others-stay [] apart = refl
  others-stay (kept ∷ others) apart = rw (apart.0, others-stay others apart.1) refl

pub set-steps : (cursors : List Cursor) (at : ℕ) (kept now : Cursor) → AreApart cursors → slice_get cursors at ≡ Some kept
    → query_of now ≡ query_after true (query_of kept)
    → map query_of (slice_set cursors at now) ≡ map (stepped kept.number) (map query_of cursors)
set-steps [] at kept now apart is after = absurd cc
set-steps (first ∷ others) zero kept now apart is after =
    let same : first ≡ kept = some-inj is in
    subst (λ (k : Cursor).
    AllByRecursion (λ other. (other.number == k.number) ≡ false) others → (query_of now ∷ map query_of others)
    ≡ (stepped kept.number (query_of k) ∷ map (stepped kept.number) (map query_of others))) (sym same)
    (λ apart. rw (itself kept.number, others-stay kept.number others apart, after) refl) apart.0
  where
    some-inj : {a b : Cursor} → Some a ≡ Some b → a ≡ b
    some-inj e = cc
set-steps (first ∷ others) (suc at) kept now apart is after =
    rw (set-steps others at kept now apart.1 is after, first-other others at apart.0 is) refl
  where
    swapped : (a b : ℕ) → (a == b) ≡ false → (b == a) ≡ false
    swapped a b is = grind (arith, nat_tests, is)

    some-inj : {a b : Cursor} → Some a ≡ Some b → a ≡ b
    some-inj e = cc

    first-other : (cursors : List Cursor) (at : ℕ) → AllByRecursion (λ other. (other.number == first.number) ≡ false) cursors
        → slice_get cursors at ≡ Some kept → (first.number == kept.number) ≡ false
    first-other [] at each is = absurd cc
    first-other (c ∷ cs) zero each is = swapped kept.number first.number (subst (λ (k : Cursor). (k.number == first.number) ≡ false) (some-inj is) each.0)
    first-other (c ∷ cs) (suc at) each is = first-other cs at each.1 is

pub set-stays : (cursors : List Cursor) (at : ℕ) (kept now : Cursor) → slice_get cursors at ≡ Some kept → query_of now ≡ query_of kept
    → map query_of (slice_set cursors at now) ≡ map query_of cursors
set-stays [] at kept now is same = absurd cc
set-stays (first ∷ others) zero kept now is same = let e : first ≡ kept = some-inj is in rw (same, e) refl
  where
    some-inj : {a b : Cursor} → Some a ≡ Some b → a ≡ b
    some-inj e = cc
set-stays (first ∷ others) (suc at) kept now is same = ap (λ (qs : List OpenQuery). query_of first ∷ qs) (set-stays others at kept now is same)

module _ (P : Cursor → Type 0) where
  pub all-set : (cursors : List Cursor) (at : ℕ) (now : Cursor) → AllByRecursion P cursors → P now → AllByRecursion P (slice_set cursors at now)
  all-set [] at now each holds = tt
  all-set (first ∷ others) zero now each holds = (holds, each.1)
  all-set (first ∷ others) (suc at) now each holds = (each.0, all-set others at now each.1 holds)

  pub all-at : (cursors : List Cursor) (at : ℕ) (kept : Cursor) → AllByRecursion P cursors → slice_get cursors at ≡ Some kept → P kept
  all-at [] at kept each is = absurd cc
  all-at (first ∷ others) zero kept each is = subst P (some-inj is) each.0
    where
      some-inj : {a b : Cursor} → Some a ≡ Some b → a ≡ b
      some-inj e = cc
  all-at (first ∷ others) (suc at) kept each is = all-at others at kept each.1 is

  pub all-filter : (t : Cursor → Bool) (cursors : List Cursor) → AllByRecursion P cursors → AllByRecursion P (filter t cursors)
  all-filter t [] each = tt
  all-filter t (first ∷ others) each = by (t first) (all-filter t others each.1)
    where
      by : (b : Bool) → AllByRecursion P (filter t others) → AllByRecursion P (if b then first ∷ filter t others else filter t others)
      by true rest = (each.0, rest)
      by false rest = rest

  pub all-last : (cursors : List Cursor) (kept : Cursor) → AllByRecursion P cursors → P kept → AllByRecursion P (cursors ++ kept ∷ [])
  all-last [] kept each holds = (holds, tt)
  all-last (first ∷ others) kept each holds = (each.0, all-last others kept each.1 holds)

pub all-map : (P Q : Cursor → Type 0) → ((kept : Cursor) → P kept → Q kept) → (cursors : List Cursor) → AllByRecursion P cursors → AllByRecursion Q cursors
all-map P Q f [] each = tt
all-map P Q f (first ∷ others) each = (f first each.0, all-map P Q f others each.1)

-- the numbers alone say that cursors are apart
numbers-set : (n : ℕ) (cursors : List Cursor) (at : ℕ) (kept now : Cursor) → slice_get cursors at ≡ Some kept → now.number ≡ kept.number
    → AllByRecursion (λ other. (other.number == n) ≡ false) cursors
    → AllByRecursion (λ other. (other.number == n) ≡ false) (slice_set cursors at now)
numbers-set n cursors at kept now is same each =
    all-set (λ other. (other.number == n) ≡ false) cursors at now each
    (ap (λ (m : ℕ). m == n) same ∙ all-at (λ other. (other.number == n) ≡ false) cursors at kept each is)

pub apart-set : (cursors : List Cursor) (at : ℕ) (kept now : Cursor) → slice_get cursors at ≡ Some kept → now.number ≡ kept.number
    → AreApart cursors → AreApart (slice_set cursors at now)
apart-set [] at kept now is same apart = tt
apart-set (first ∷ others) zero kept now is same apart = (
  subst (λ (n : ℕ). AllByRecursion (λ other. (other.number == n) ≡ false) others)
      (sym (same ∙ ap (λ (k : Cursor). k.number) (sym (some-inj is)))) apart.0,
  apart.1,
)
  where
    some-inj : {a b : Cursor} → Some a ≡ Some b → a ≡ b
    some-inj e = cc
apart-set (first ∷ others) (suc at) kept now is same apart = (
  numbers-set first.number others at kept now is same apart.0,
  apart-set others at kept now is same apart.1,
)

-- ---- it is taken away

pub apart-filter : (t : Cursor → Bool) (cursors : List Cursor) → AreApart cursors → AreApart (filter t cursors)
apart-filter t [] apart = tt
apart-filter t (first ∷ others) apart = by (t first) (apart-filter t others apart.1)
  where
    by : (b : Bool) → AreApart (filter t others) → AreApart (if b then first ∷ filter t others else filter t others)
    by true rest = (all-filter (λ other. (other.number == first.number) ≡ false) t others apart.0, rest)
    by false rest = rest

pub state-filter : (number : ℕ) (cursors : List Cursor)
    → map query_of (filter (λ kept. not (is_number number kept)) cursors) ≡ filter (λ query. not (is_query number query)) (map query_of cursors)
state-filter number [] = refl
state-filter number (first ∷ others) = by (is_number number first) (state-filter number others)
  where
    left : List Cursor
    left = filter (λ kept. not (is_number number kept)) others

    rest : List OpenQuery
    rest = filter (λ query. not (is_query number query)) (map query_of others)

    by : (b : Bool) → map query_of left ≡ rest
        → map query_of (if not b then first ∷ left else left) ≡ (if not b then query_of first ∷ rest else rest)
    by true same = same
    by false same = ap (λ (qs : List OpenQuery). query_of first ∷ qs) same

-- ---- one comes to the others

pub state-last : (cursors : List Cursor) (kept : Cursor) → map query_of (cursors ++ kept ∷ []) ≡ map query_of cursors ++ query_of kept ∷ []
state-last [] kept = refl
state-last (first ∷ others) kept = ap (λ (qs : List OpenQuery). query_of first ∷ qs) (state-last others kept)

-- a number that is not open is none of those that are kept
not-among : (number : ℕ) (cursors : List Cursor) (opened : List Opened) → AreQueriesOf (map query_of cursors) opened
    → list_any (is_cursor number) opened ≡ false → AllByRecursion (λ other. (number == other.number) ≡ false) cursors
not-among number [] opened are shut = tt
not-among number (kept ∷ others) [] are shut = absurd are
not-among number (kept ∷ others) (c ∷ cs) are shut =
    by (is_cursor number c) (list_any (is_cursor number) cs) refl shut (λ rest. not-among number others cs are.1 rest)
  where
    swapped : (a b : ℕ) → (a == b) ≡ false → (b == a) ≡ false
    swapped a b is = grind (arith, nat_tests, is)

    by : (first rest : Bool) → is_cursor number c ≡ first → (first || rest) ≡ false
        → (rest ≡ false → AllByRecursion (λ other. (number == other.number) ≡ false) others)
        → AllByRecursion (λ other. (number == other.number) ≡ false) (kept ∷ others)
    by true rest is both on = absurd cc
    by false rest is both on = (swapped kept.number number (ap (λ (n : ℕ). n == number) are.0.same ∙ is), on both)

pub apart-last : (cursors : List Cursor) (kept : Cursor) → AllByRecursion (λ other. (kept.number == other.number) ≡ false) cursors → AreApart cursors
    → AreApart (cursors ++ kept ∷ [])
apart-last [] kept other apart = (tt, tt)
apart-last (first ∷ others) kept other apart = (
  all-last (λ other. (other.number == first.number) ≡ false) others kept apart.0 other.0,
  apart-last others kept other.1 apart.1,
)

pub fresh-apart : (cursors : List Cursor) (kept : Cursor) (opened : List Opened) → AreQueriesOf (map query_of cursors) opened
    → list_any (is_cursor kept.number) opened ≡ false → AreApart cursors → AreApart (cursors ++ kept ∷ [])
fresh-apart cursors kept opened are shut apart = apart-last cursors kept (not-among kept.number cursors opened are shut) apart
