-- Elements and cells side by side that become another one.
use Rattle.std.proofs.Common.{◌≡◌, ℕ, zero, suc, ◌+◌, ◌-◌, ◌<◌, ◌≤◌, ◌⊎◌, inl, inr, List, [], ◌∷◌, ◌++◌, length, get_or, set, take, drop, min, fold, refl, sym, ap, ◌∙◌, ⊎_elim, arith}
use Rattle.std.specs.List.{range_with_len}
use Rattle.std.proofs.lemmas.Bool.{cases_lt}
use Rattle.std.proofs.lemmas.List.{get_or-set_same, get_or_read, length-set, set_past, set-get_or}
use Rattle.std.proofs.lemmas.List.Sums.{fold-append}
use Rattle.im_tables.specs.Table.{row_of, with_cells, with_range}
use Rattle.im_tables.proofs.ForCallers.{with_cell-past}

range-push : (first count : ℕ) → range_with_len first (count + 1) ≡ range_with_len first count ++ (first + count) ∷ []
range-push first zero = ap (λ (n : ℕ). n ∷ []) (omega arith)
range-push first (suc count) =
    let next : suc count + 1 ≡ suc (count + 1) = omega arith in
    ap (λ (n : ℕ). range_with_len first n) next
    ∙ ap (λ (ns : List ℕ). first ∷ ns) (range-push (first + 1) count
    ∙ ap (λ (n : ℕ). range_with_len (first + 1) count ++ n ∷ []) (omega arith))

-- no element
pub with_range-none : {T : Type 0} (xs : List T) (first : ℕ) (element : T) → with_range first 0 element xs ≡ xs
with_range-none xs first element = refl

-- one element more
pub with_range-next : {T : Type 0} (xs : List T) (first count : ℕ) (element : T) →
    with_range first (count + 1) element xs ≡ set (with_range first count element xs) (first + count) element
with_range-next xs first count element =
    let step = λ (all : List _) (place : ℕ). set all place element in
    ap (fold step xs) (range-push first count) ∙ fold-append step xs (range_with_len first count) ((first + count) ∷ [])

-- the same in a loop
pub with_range-step : {T : Type 0} (old now : List T) (first at : ℕ) (element : T) → first ≤ at → now ≡ with_range first (at - first) element old →
    set now at element ≡ with_range first (at + 1 - first) element old
with_range-step old now first at element from is =
    let place : first + (at - first) ≡ at = omega (arith, from) in
    let count : at - first + 1 ≡ at + 1 - first = omega (arith, from) in
    ap (λ (xs : List _). set xs at element) is
    ∙ (ap (λ (n : ℕ). set (with_range first (at - first) element old) n element) (sym place)
    ∙ (sym (with_range-next old first (at - first) element) ∙ ap (λ (n : ℕ). with_range first n element old) count))

length-with_range : {T : Type 0} (xs : List T) (first count : ℕ) (element : T) → length (with_range first count element xs) ≡ length xs
length-with_range xs first zero element = refl
length-with_range xs first (suc count) element = length-with_range (set xs first element) (first + 1) count element ∙ length-set xs first element

-- past the end nothing is changed
with_range-past : {T : Type 0} (xs : List T) (first count : ℕ) (element : T) → length xs ≤ first → with_range first count element xs ≡ xs
with_range-past xs first zero element past = refl
with_range-past xs first (suc count) element past =
    let same = set_past xs first element past in
    ap (λ (all : List _). with_range (first + 1) count element all) same ∙ with_range-past xs (first + 1) count element (omega (arith, past))

with_range-split : {T : Type 0} (xs : List T) (first a b : ℕ) (element : T) →
    with_range first (a + b) element xs ≡ with_range (first + a) b element (with_range first a element xs)
with_range-split xs first zero b element =
    let none : zero + b ≡ b = omega arith in
    let start : first + 0 ≡ first = omega arith in
    ap (λ (n : ℕ). with_range first n element xs) none ∙ ap (λ (n : ℕ). with_range n b element xs) (sym start)
with_range-split xs first (suc a) b element =
    let more : suc a + b ≡ suc (a + b) = omega arith in
    let start : first + 1 + a ≡ first + suc a = omega arith in
    let rest = with_range (first + 1) a element (set xs first element) in
    ap (λ (n : ℕ). with_range first n element xs) more
    ∙ (with_range-split (set xs first element) (first + 1) a b element ∙ ap (λ (n : ℕ). with_range n b element rest) start)

-- elements up to the end are all that are there
pub with_range-clipped : {T : Type 0} (xs : List T) (first count : ℕ) (element : T) → first < min (first + count) (length xs) →
    with_range first (min (first + count) (length xs) - first) element xs ≡ with_range first count element xs
with_range-clipped xs first count element some =
    let a : ℕ = min (first + count) (length xs) - first in
    ⊎_elim
    (λ (within : first + count < length xs).
    let all : a ≡ count = omega (arith, within) in
    ap (λ (n : ℕ). with_range first n element xs) all)
    (λ (past : length xs ≤ first + count).
    let parts : count ≡ a + (count - a) = omega (arith, past, some) in
    let first_part = with_range first a element xs in
    let at_end : length first_part ≤ first + a = let long = length-with_range xs first a element in omega (arith, long, past, some) in
    sym (ap (λ (n : ℕ). with_range first n element xs) parts
    ∙ (with_range-split xs first a (count - a) element ∙ with_range-past first_part (first + a) (count - a) element at_end)))
    (cases_lt (first + count) (length xs))

take-front : {T : Type 0} (xs ys : List T) → take (length xs) (xs ++ ys) ≡ xs
take-front [] ys = refl
take-front (x ∷ xs) ys = ap (λ (all : List _). x ∷ all) (take-front xs ys)

-- the elements of a list with room behind them
pub with_range-whole : {T : Type 0} (old new lent : List T) (first count end len : ℕ) (element : T) → len ≡ length old → lent ≡ old →
    end ≡ min (first + count) len → first < end → new ≡ with_range first (end - first) element lent →
    take len (new ++ drop (length new) old) ≡ with_range first count element old
with_range-whole old new lent first count end len element size is is_end some made =
    let last : end ≡ min (first + count) (length old) = is_end ∙ ap (min (first + count)) size in
    let all : new ≡ with_range first (end - first) element old = made ∙ ap (with_range first (end - first) element) is in
    let long : length new ≡ len = ap length all ∙ (length-with_range old first (end - first) element ∙ sym size) in
    let some_there : first < min (first + count) (length old) = omega (arith, last, some) in
    ap (λ (n : ℕ). take n (new ++ drop (length new) old)) (sym long)
    ∙ (take-front new (drop (length new) old)
    ∙ (all ∙ (ap (λ (n : ℕ). with_range first (n - first) element old) last ∙ with_range-clipped old first count element some_there)))

-- where no element is there, none is changed
pub with_range-outside : {T : Type 0} (xs : List T) (first count end len : ℕ) (element : T) → len ≡ length xs → end ≡ min (first + count) len →
    end ≤ first → xs ≡ with_range first count element xs
with_range-outside xs first count end len element size last none =
    ⊎_elim
    (λ (past : length xs ≤ first). sym (with_range-past xs first count element past))
    (λ (inside : first < length xs).
    let no : count ≡ 0 = omega (arith, inside, none, size, last) in
    sym (ap (λ (n : ℕ). with_range first n element xs) no))
    (le_or_lt (length xs) first)
  where
    le_or_lt : (m n : ℕ) → (m ≤ n) ⊎ (n < m)
    le_or_lt m n = ⊎_elim (λ (below : n < m). inr below) (λ (above : m ≤ n). inl above) (cases_lt n m)

set-twice : {T : Type 0} (xs : List T) (i : ℕ) (x y : T) → set (set xs i x) i y ≡ set xs i y
set-twice [] i x y = refl
set-twice (z ∷ xs) zero x y = refl
set-twice (z ∷ xs) (suc i) x y = ap (λ (all : List _). z ∷ all) (set-twice xs i x y)

-- the cells of one table change
pub with_cells-line : {T : Type 0} (cells : List (List T)) (table first count : ℕ) (cell : T) → table < length cells →
    with_cells table first count cell cells ≡ set cells table (with_range first count cell (row_of cells table))
with_cells-line cells table first zero cell inside = sym (set-get_or cells table [])
with_cells-line cells table first (suc count) cell inside =
    let row = set (row_of cells table) first cell in
    let next = set cells table row in
    let here : row_of next table ≡ row = get_or-set_same cells table row [] inside in
    with_cells-line next table (first + 1) count cell (let long = length-set cells table row in omega (arith, inside, long))
    ∙ (ap (λ (line : List _). set next table (with_range (first + 1) count cell line)) here
    ∙ set-twice cells table row (with_range (first + 1) count cell row))

-- the cells of one table changed
pub with_cells-made : {T : Type 0} (cells : List (List T)) (table first count : ℕ) (cell : T) (before after : List T) → table < length cells →
    before ≡ get_or cells table before → after ≡ with_range first count cell before → set cells table after ≡ with_cells table first count cell cells
with_cells-made cells table first count cell before after inside was made =
    ap (set cells table) (made ∙ ap (with_range first count cell) (get_or_read cells table before inside was []))
    ∙ sym (with_cells-line cells table first count cell inside)

-- past the last table nothing is changed
pub with_cells-past : {T : Type 0} (cells : List (List T)) (table first count : ℕ) (cell : T) → length cells ≤ table →
    with_cells table first count cell cells ≡ cells
with_cells-past cells table first zero cell past = refl
with_cells-past cells table first (suc count) cell past =
    ap (λ (all : List (List _)). with_cells table (first + 1) count cell all) (with_cell-past cells table first cell past)
    ∙ with_cells-past cells table (first + 1) count cell past
