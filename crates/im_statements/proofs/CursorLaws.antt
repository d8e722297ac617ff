-- Lists of open cursors: those that a statement opened by itself among them, and the queries that are kept of the others.
use Rattle.std.proofs.Common.{◌≡◌, ℕ, ◌+◌, ◌==◌, ◌||◌, Bool, true, false, not, if◌then◌else◌, List, [], ◌∷◌, ◌++◌, filter, map, refl, sym, ap, ◌∙◌, arith}
use Rattle.std.proofs.lemmas.Bool.Decides.{nat_tests}
use Rattle.std.specs.List.{list_any}
use Rattle.im_history.specs.Cursors.{Opened, is_cursor}
use Rattle.im_statements.specs.Agreement.{AreQueriesOf, IsQueryOf}
use Rattle.im_statements.specs.Outcomes.{OpenQuery, is_query, stepped}

-- ---- tests of lists

module _ {A : Type 0} (p q : A → Bool) where
  -- none is the one or the other, so none is the one, and none the other
  pub any-either : (xs : List A) → list_any (λ x. p x || q x) xs ≡ false → (list_any p xs ≡ false) × (list_any q xs ≡ false)
  any-either [] none = (refl, refl)
  any-either (x ∷ xs) none = by (p x) (q x) (list_any (λ y. p y || q y) xs) none (any-either xs)
    where
      by : (one other rest : Bool) → ((one || other) || rest) ≡ false → (rest ≡ false → (list_any p xs ≡ false) × (list_any q xs ≡ false))
          → ((one || list_any p xs) ≡ false) × ((other || list_any q xs) ≡ false)
      by true other rest none later = absurd cc
      by false true rest none later = absurd cc
      by false false rest none later = later none

  -- and the other way round
  pub any-both : (xs : List A) → list_any p xs ≡ false → list_any q xs ≡ false → list_any (λ x. p x || q x) xs ≡ false
  any-both [] one other = refl
  any-both (x ∷ xs) one other = by (p x) (q x) (list_any p xs) (list_any q xs) one other (any-both xs)
    where
      by : (a b c d : Bool) → (a || c) ≡ false → (b || d) ≡ false → (c ≡ false → d ≡ false → list_any (λ y. p y || q y) xs ≡ false)
          → ((a || b) || list_any (λ y. p y || q y) xs) ≡ false
      by true b c d one other later = absurd cc
      by false true c d one other later = absurd cc
      by false false c d one other later = later one other

  -- none of those that are left is one where none was
  pub any-filter : (xs : List A) → list_any p xs ≡ false → list_any p (filter q xs) ≡ false
  any-filter [] none = refl
  any-filter (x ∷ xs) none = by (p x) (list_any p xs) refl none (any-filter xs)
    where
      kept : (b : Bool) → p x ≡ false → list_any p (filter q xs) ≡ false → list_any p (if b then x ∷ filter q xs else filter q xs) ≡ false
      kept true is later = rw is later
      kept false is later = later

      by : (first rest : Bool) → p x ≡ first → (first || rest) ≡ false → (rest ≡ false → list_any p (filter q xs) ≡ false)
          → list_any p (if q x then x ∷ filter q xs else filter q xs) ≡ false
      by true rest is none later = absurd cc
      by false rest is none later = kept (q x) is (later none)

  -- it does not matter which are left out first
  filter-swap : (xs : List A) → filter p (filter q xs) ≡ filter q (filter p xs)
  filter-swap [] = refl
  filter-swap (x ∷ xs) = by (p x) (q x) refl refl (filter-swap xs)
    where
      by : (a b : Bool) → p x ≡ a → q x ≡ b → filter p (filter q xs) ≡ filter q (filter p xs)
          → filter p (if b then x ∷ filter q xs else filter q xs) ≡ filter q (if a then x ∷ filter p xs else filter p xs)
      by true true one other same = rw (one, other) (ap (λ (ys : List A). x ∷ ys) same)
      by true false one other same = rw other same
      by false true one other same = rw one same
      by false false one other same = same

-- nothing is what is never so
pub any-never : {A : Type 0} (xs : List A) → list_any (λ (x : A). false) xs ≡ false
any-never [] = refl
any-never (x ∷ xs) = any-never xs

module _ {A : Type 0} (p : A → Bool) where
  -- those that are left out are gone
  pub filter-gone : (xs : List A) → list_any p (filter (λ x. not (p x)) xs) ≡ false
  filter-gone [] = refl
  filter-gone (x ∷ xs) = by (p x) refl (filter-gone xs)
    where
      by : (b : Bool) → p x ≡ b → list_any p (filter (λ y. not (p y)) xs) ≡ false
          → list_any p (if not b then x ∷ filter (λ y. not (p y)) xs else filter (λ y. not (p y)) xs) ≡ false
      by true is gone = gone
      by false is gone = rw is gone

  -- where there are none, none is left out
  pub filter-none : (xs : List A) → list_any p xs ≡ false → filter (λ x. not (p x)) xs ≡ xs
  filter-none [] none = refl
  filter-none (x ∷ xs) none = by (p x) (list_any p xs) none (filter-none xs)
    where
      by : (first rest : Bool) → (first || rest) ≡ false → (rest ≡ false → filter (λ y. not (p y)) xs ≡ xs)
          → (if not first then x ∷ filter (λ y. not (p y)) xs else filter (λ y. not (p y)) xs) ≡ x ∷ xs
      by true rest none later = absurd cc
      by false rest none later = ap (λ (ys : List A). x ∷ ys) (later none)

-- ---- cursors of some numbers

-- the cursors whose number is none of these
abbrev pub beside : (ℕ → Bool) → List Opened → List Opened
beside p cursors = filter (λ cursor. not (p cursor.cursor)) cursors

-- the numbers of those that are
abbrev pub numbers_in : (ℕ → Bool) → List Opened → List ℕ
numbers_in p [] = []
numbers_in p (cursor ∷ cursors) = if p cursor.cursor then cursor.cursor ∷ numbers_in p cursors else numbers_in p cursors

-- numbers without one
abbrev pub without : ℕ → List ℕ → List ℕ
without number numbers = filter (λ other. not (other == number)) numbers

-- the cursors that are left when that of a number is closed
abbrev pub closed : ℕ → List Opened → List Opened
closed number cursors = filter (λ cursor. not (is_cursor number cursor)) cursors

module _ (p : ℕ → Bool) where
  -- ---- one more is open

  pub beside-own : (cursors : List Opened) (cursor : Opened) → p cursor.cursor ≡ true → beside p (cursors ++ cursor ∷ []) ≡ beside p cursors
  beside-own [] cursor is = rw is refl
  beside-own (other ∷ cursors) cursor is =
      ap (λ (os : List Opened). if not (p other.cursor) then other ∷ os else os) (beside-own cursors cursor is)

  pub beside-other : (cursors : List Opened) (cursor : Opened) → p cursor.cursor ≡ false
      → beside p (cursors ++ cursor ∷ []) ≡ beside p cursors ++ cursor ∷ []
  beside-other [] cursor is = rw is refl
  beside-other (other ∷ cursors) cursor is = by (p other.cursor) (beside-other cursors cursor is)
    where
      by : (b : Bool) → beside p (cursors ++ cursor ∷ []) ≡ beside p cursors ++ cursor ∷ []
          → (if not b then other ∷ beside p (cursors ++ cursor ∷ []) else beside p (cursors ++ cursor ∷ []))
          ≡ (if not b then other ∷ beside p cursors else beside p cursors) ++ cursor ∷ []
      by true same = same
      by false same = ap (λ (os : List Opened). other ∷ os) same

  pub numbers-own : (cursors : List Opened) (cursor : Opened) → p cursor.cursor ≡ true
      → numbers_in p (cursors ++ cursor ∷ []) ≡ numbers_in p cursors ++ cursor.cursor ∷ []
  numbers-own [] cursor is = rw is refl
  numbers-own (other ∷ cursors) cursor is = by (p other.cursor) (numbers-own cursors cursor is)
    where
      by : (b : Bool) → numbers_in p (cursors ++ cursor ∷ []) ≡ numbers_in p cursors ++ cursor.cursor ∷ []
          → (if b then other.cursor ∷ numbers_in p (cursors ++ cursor ∷ []) else numbers_in p (cursors ++ cursor ∷ []))
          ≡ (if b then other.cursor ∷ numbers_in p cursors else numbers_in p cursors) ++ cursor.cursor ∷ []
      by true same = ap (λ (ns : List ℕ). other.cursor ∷ ns) same
      by false same = same

  pub numbers-other : (cursors : List Opened) (cursor : Opened) → p cursor.cursor ≡ false
      → numbers_in p (cursors ++ cursor ∷ []) ≡ numbers_in p cursors
  numbers-other [] cursor is = rw is refl
  numbers-other (other ∷ cursors) cursor is =
      ap (λ (ns : List ℕ). if p other.cursor then other.cursor ∷ ns else ns) (numbers-other cursors cursor is)

  -- ---- one is closed

  pub beside-closed : (number : ℕ) (cursors : List Opened) → beside p (closed number cursors) ≡ closed number (beside p cursors)
  beside-closed number cursors = filter-swap (λ cursor. not (p cursor.cursor)) (λ cursor. not (is_cursor number cursor)) cursors

  pub numbers-closed : (number : ℕ) (cursors : List Opened) → numbers_in p (closed number cursors) ≡ without number (numbers_in p cursors)
  numbers-closed number [] = refl
  numbers-closed number (cursor ∷ cursors) =
      by (is_cursor number cursor) (p cursor.cursor) refl refl (numbers-closed number cursors)
    where
      by : (a b : Bool) → is_cursor number cursor ≡ a → p cursor.cursor ≡ b
          → numbers_in p (closed number cursors) ≡ without number (numbers_in p cursors)
          → numbers_in p (if not a then cursor ∷ closed number cursors else closed number cursors)
          ≡ without number (if b then cursor.cursor ∷ numbers_in p cursors else numbers_in p cursors)
      by true true one other same = rw one same
      by true false one other same = same
      by false true one other same = rw (one, other) (ap (λ (ns : List ℕ). cursor.cursor ∷ ns) same)
      by false false one other same = rw other same

  -- one of them is not among others
  absent : (number : ℕ) (cursors : List Opened) → p number ≡ true → list_any (λ cursor. p cursor.cursor) cursors ≡ false
      → list_any (is_cursor number) cursors ≡ false
  absent number [] is none = refl
  absent number (cursor ∷ cursors) is none =
      by (is_cursor number cursor) (p cursor.cursor) (list_any (λ other. p other.cursor) cursors) refl refl none (absent number cursors is)
    where
      by : (a b rest : Bool) → is_cursor number cursor ≡ a → p cursor.cursor ≡ b → (b || rest) ≡ false
          → (rest ≡ false → list_any (is_cursor number) cursors ≡ false) → (a || list_any (is_cursor number) cursors) ≡ false
      by a true rest one other none later = absurd cc
      by false false rest one other none later = later none
      by true false rest one other none later =
          let same : cursor.cursor ≡ number = grind (arith, nat_tests, one) in
          let both : true ≡ false = sym is ∙ (ap p (sym same) ∙ other) in
          absurd cc

  pub closed-absent : (number : ℕ) (cursors : List Opened) → p number ≡ true → list_any (λ cursor. p cursor.cursor) cursors ≡ false
      → closed number cursors ≡ cursors
  closed-absent number cursors is none = filter-none (is_cursor number) cursors (absent number cursors is none)

  -- ---- none of them is open

  pub beside-none : (cursors : List Opened) → list_any (λ cursor. p cursor.cursor) cursors ≡ false → beside p cursors ≡ cursors
  beside-none cursors none = filter-none (λ cursor. p cursor.cursor) cursors none

  pub numbers-none : (cursors : List Opened) → list_any (λ cursor. p cursor.cursor) cursors ≡ false → numbers_in p cursors ≡ []
  numbers-none [] none = refl
  numbers-none (cursor ∷ cursors) none = by (p cursor.cursor) (list_any (λ other. p other.cursor) cursors) none (numbers-none cursors)
    where
      by : (first rest : Bool) → (first || rest) ≡ false → (rest ≡ false → numbers_in p cursors ≡ [])
          → (if first then cursor.cursor ∷ numbers_in p cursors else numbers_in p cursors) ≡ []
      by true rest none later = absurd cc
      by false rest none later = later none

  pub none-numbers : (cursors : List Opened) → numbers_in p cursors ≡ [] → list_any (λ cursor. p cursor.cursor) cursors ≡ false
  none-numbers [] none = refl
  none-numbers (cursor ∷ cursors) none = by (p cursor.cursor) none (none-numbers cursors)
    where
      by : (b : Bool) → (if b then cursor.cursor ∷ numbers_in p cursors else numbers_in p cursors) ≡ []
          → (numbers_in p cursors ≡ [] → list_any (λ other. p other.cursor) cursors ≡ false) → (b || list_any (λ other. p other.cursor) cursors) ≡ false
      by true none later = absurd cc
      by false none later = later none

-- ---- queries of cursors

pub queries-append : (queries : List OpenQuery) (cursors : List Opened) (query : OpenQuery) (cursor : Opened) → AreQueriesOf queries cursors
    → IsQueryOf query cursor → AreQueriesOf (queries ++ query ∷ []) (cursors ++ cursor ∷ [])
queries-append [] [] query cursor are is = (is, tt)
queries-append [] (c ∷ cs) query cursor are is = absurd are
queries-append (q ∷ qs) [] query cursor are is = absurd are
queries-append (q ∷ qs) (c ∷ cs) query cursor are is = (are.0, queries-append qs cs query cursor are.1 is)

stepped-is : (number : ℕ) (query : OpenQuery) (cursor : Opened) → IsQueryOf query cursor → IsQueryOf (stepped number query) cursor
stepped-is number query cursor is = by (query.cursor == number)
  where
    by : (b : Bool) → IsQueryOf (if b then record query { next = query.next + 1 } else query) cursor
    by true = record { same = is.same; view = is.view }
    by false = is

pub queries-stepped : (number : ℕ) (queries : List OpenQuery) (cursors : List Opened) → AreQueriesOf queries cursors
    → AreQueriesOf (map (stepped number) queries) cursors
queries-stepped number [] [] are = tt
queries-stepped number [] (c ∷ cs) are = absurd are
queries-stepped number (q ∷ qs) [] are = absurd are
queries-stepped number (q ∷ qs) (c ∷ cs) are = (stepped-is number q c are.0, queries-stepped number qs cs are.1)

pub queries-closed : (number : ℕ) (queries : List OpenQuery) (cursors : List Opened) → AreQueriesOf queries cursors
    → AreQueriesOf (filter (λ query. not (is_query number query)) queries) (closed number cursors)
queries-closed number [] [] are = tt
queries-closed number [] (c ∷ cs) are = absurd are
queries-closed number (q ∷ qs) [] are = absurd are
queries-closed number (q ∷ qs) (c ∷ cs) are =
    by (is_cursor number c) (is_query number q) (ap (λ (n : ℕ). n == number) are.0.same) (queries-closed number qs cs are.1)
  where
    left : List OpenQuery
    left = filter (λ query. not (is_query number query)) qs

    by : (this that : Bool) → that ≡ this → AreQueriesOf left (closed number cs)
        → AreQueriesOf (if not that then q ∷ left else left) (if not this then c ∷ closed number cs else closed number cs)
    by true that is rest = rw is rest
    by false that is rest = rw is (are.0, rest)
