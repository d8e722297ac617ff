-- Cells read, changed and grown.
use Rattle.std.proofs.Common.{◌≡◌, ℕ, ◌<◌, ◌≤◌, Bool, true, false, ◌==◌, ◌&&◌, ◌⊎◌, inl, inr, ⊎_elim, List, [], length, get_or, set, refl, sym, ap, ◌∙◌, subst, arith, le_refl, eq-eqb, ne_eqb, if◌then◌else◌, None, Some}
use Rattle.std.specs.Option.{unwrap_or}
use Rattle.std.proofs.lemmas.Bool.{cases_eq, cases_lt}
use Rattle.std.proofs.lemmas.Grind.{get_or-set_at}
use Rattle.std.proofs.lemmas.List.{get_or-set_same, get_or-set_other, get_or_past, length-set, set_past, set-get_or}
use Rattle.std.proofs.lemmas.Option.{slice_get_cases, unwrap_or-slice_get}
use Rattle.std.specs.List.{slice_get}
use Rattle.im_tables.specs.Table.{HasCell, IsGrown, cell_at, found_at, row_of, with_cell}

-- what is found is what is read, and where nothing is found the cell is empty
pub unwrap_or-found_at : {T : Type 0} (empty : T) (cells : List (List T)) (table number : ℕ) →
    unwrap_or (found_at cells table number) empty ≡ cell_at empty cells table number
unfolding cell_at
unwrap_or-found_at empty cells table number = unwrap_or-slice_get (row_of cells table) number empty

-- a table that has a cell is there
pub table_of : {T : Type 0} (cells : List (List T)) (table number : ℕ) → HasCell cells table number → table < length cells
table_of cells table number has =
    ⊎_elim (λ (inside : table < length cells). inside)
    (λ (past : length cells ≤ table).
    let none : length (row_of cells table) ≡ 0 = ap length (get_or_past cells table [] past) in
    let below = has.below in
    absurd (omega (arith, below, none)))
    (cases_lt table (length cells))

-- a cell that is another than the empty one is there
pub HasCell-where : {T : Type 0} (empty : T) (cells : List (List T)) (table number : ℕ) → (cell_at empty cells table number ≡ empty → ⊥) →
    HasCell cells table number
unfolding cell_at
HasCell-where empty cells table number some =
    ⊎_elim (λ (inside : number < length (row_of cells table)). record { below = inside })
    (λ (past : length (row_of cells table) ≤ number). absurd (some (get_or_past (row_of cells table) number empty past)))
    (cases_lt number (length (row_of cells table)))

-- a cell is there, or it is the empty one
pub HasCell-or-empty : {T : Type 0} (empty : T) (cells : List (List T)) (table number : ℕ) →
    HasCell cells table number ⊎ (cell_at empty cells table number ≡ empty)
unfolding cell_at
HasCell-or-empty empty cells table number =
    ⊎_elim (λ (inside : number < length (row_of cells table)). inl (record { below = inside }))
    (λ (past : length (row_of cells table) ≤ number). inr (get_or_past (row_of cells table) number empty past))
    (cases_lt number (length (row_of cells table)))

-- past the end of its table a cell is empty
pub cell_at-past : {T : Type 0} (empty : T) (cells : List (List T)) (table number : ℕ) → length (row_of cells table) ≤ number →
    cell_at empty cells table number ≡ empty
unfolding cell_at
cell_at-past empty cells table number past = get_or_past (row_of cells table) number empty past

-- where there are no cells, each is empty
pub cell_at-nil : {T : Type 0} (empty : T) (table number : ℕ) → cell_at empty [] table number ≡ empty
unfolding cell_at
cell_at-nil empty table number = refl

-- ---- a cell that changes

-- the cells of one table after those of a table are others
row_of-set : {T : Type 0} (cells : List (List T)) (table other : ℕ) (row : List T) → table < length cells
    → row_of (set cells table row) other ≡ (if table == other then row else row_of cells other)
row_of-set cells table other row inside =
    ⊎_elim
    (λ (is : table ≡ other). rw (eq-eqb table other is) (get_or-set_at cells table other row [] (sym is) inside))
    (λ (apart : table ≡ other → ⊥). rw (ne_eqb table other apart) (get_or-set_other cells table other row [] (λ (e : other ≡ table). apart (sym e))))
    (cases_eq table other)

-- a cell of a table after one is another, where it is there or the other is empty
get_or-set : {T : Type 0} (row : List T) (at number : ℕ) (cell empty : T) → (at < length row) ⊎ (cell ≡ empty)
    → get_or (set row at cell) number empty ≡ (if at == number then cell else get_or row number empty)
get_or-set row at number cell empty can =
    ⊎_elim
    (λ (is : at ≡ number).
    let same : get_or (set row at cell) at empty ≡ cell =
    ⊎_elim
    (λ (inside : at < length row). get_or-set_same row at cell empty inside)
    (λ (past : length row ≤ at).
    ⊎_elim
    (λ (inside : at < length row). absurd (omega (arith, inside, past)))
    (λ (is_empty : cell ≡ empty). ap (λ (l : List _). get_or l at empty) (set_past row at cell past) ∙ (get_or_past row at empty past ∙ sym is_empty))
    can)
    (cases_lt at (length row)) in
    rw (eq-eqb at number is) (subst (λ (k : ℕ). get_or (set row at cell) k empty ≡ cell) is same))
    (λ (apart : at ≡ number → ⊥). rw (ne_eqb at number apart) (get_or-set_other row at number cell empty (λ (e : number ≡ at). apart (sym e))))
    (cases_eq at number)

same_either : {T : Type 0} (b : Bool) (x : T) → x ≡ (if b then x else x)
same_either true x = refl
same_either false x = refl

-- past the last table nothing is changed
pub with_cell-past : {T : Type 0} (cells : List (List T)) (table number : ℕ) (cell : T) → length cells ≤ table → with_cell table number cell cells ≡ cells
with_cell-past cells table number cell past = set_past cells table (set (row_of cells table) number cell) past

past_where_none : {T : Type 0} (xs : List T) (i : ℕ) → slice_get xs i ≡ None → length xs ≤ i
past_where_none xs i none =
    ⊎_elim (λ found. absurd (cc)) (λ past. past.0) ((slice_get_cases xs i).1)

-- a cell that was found is there
pub HasCell-found : {T : Type 0} (cells : List (List T)) (table number : ℕ) (cell : T) → found_at cells table number ≡ Some cell →
    HasCell cells table number
HasCell-found cells table number cell is =
    ⊎_elim (λ found. record { below = found.1 }) (λ past. absurd (cc)) ((slice_get_cases (row_of cells table) number).1)

-- where nothing is found, nothing is changed
pub with_cell-none : {T : Type 0} (cells : List (List T)) (table number : ℕ) (cell : T) → found_at cells table number ≡ None →
    with_cell table number cell cells ≡ cells
with_cell-none cells table number cell none =
    ap (λ (row : List _). set cells table row) (set_past (row_of cells table) number cell (past_where_none (row_of cells table) number none))
    ∙ set-get_or cells table []

-- each cell after one is another, where that is there or the other is empty
pub cell_at-with_cell : {T : Type 0} (empty : T) (cells : List (List T)) (table number : ℕ) (cell : T) (t n : ℕ) → HasCell cells table number ⊎ (cell ≡ empty)
    → cell_at empty (with_cell table number cell cells) t n ≡ (if (table == t) && (number == n) then cell else cell_at empty cells t n)
unfolding cell_at
cell_at-with_cell empty cells table number cell t n can =
    let row = set (row_of cells table) number cell in
    ⊎_elim
    (λ (inside : table < length cells).
    let here : (number < length (row_of cells table)) ⊎ (cell ≡ empty) =
    ⊎_elim (λ (has : HasCell cells table number). inl has.below) (λ (is_empty : cell ≡ empty). inr is_empty) can in
    ap (λ (line : List _). get_or line n empty) (row_of-set cells table t row inside)
    ∙ ⊎_elim
    (λ (is : table ≡ t). rw (eq-eqb table t is) (get_or-set (row_of cells table) number n cell empty here
    ∙ ap (λ (k : ℕ). if number == n then cell else get_or (row_of cells k) n empty) is))
    (λ (apart : table ≡ t → ⊥). rw (ne_eqb table t apart) refl)
    (cases_eq table t))
    (λ (past : length cells ≤ table).
    let none : row_of cells table ≡ [] = get_or_past cells table [] past in
    let short : length (row_of cells table) ≡ 0 = ap length none in
    let is_empty : cell ≡ empty =
    ⊎_elim (λ (has : HasCell cells table number). let below = has.below in absurd (omega (arith, below, short))) (λ (e : cell ≡ empty). e) can in
    ap (λ (all : List (List _)). get_or (row_of all t) n empty) (with_cell-past cells table number cell past)
    ∙ ⊎_elim
    (λ (is : table ≡ t).
    let nothing : get_or (row_of cells t) n empty ≡ empty = ap (λ (line : List _). get_or line n empty) (ap (row_of cells) (sym is) ∙ none)
    ∙ get_or_past [] n empty (omega arith) in
    rw (eq-eqb table t is, nothing, is_empty) (same_either (number == n) empty))
    (λ (apart : table ≡ t → ⊥). rw (ne_eqb table t apart) refl)
    (cases_eq table t))
    (cases_lt table (length cells))

-- a cell is this one or another
pub same_cell : (table number t n : ℕ) → ((t ≡ table) × (n ≡ number)) ⊎ (t ≡ table → n ≡ number → ⊥)
same_cell table number t n =
    ⊎_elim
    (λ (same : t ≡ table).
    ⊎_elim (λ (is : n ≡ number). inl (same, is)) (λ (apart : n ≡ number → ⊥). inr (λ (e : t ≡ table) (f : n ≡ number). apart f)) (cases_eq n number))
    (λ (apart : t ≡ table → ⊥). inr (λ (e : t ≡ table) (f : n ≡ number). apart e))
    (cases_eq t table)

-- the cell that is another
pub cell_at-with_cell_same : {T : Type 0} (empty : T) (cells : List (List T)) (table number : ℕ) (cell : T) → HasCell cells table number
    → cell_at empty (with_cell table number cell cells) table number ≡ cell
cell_at-with_cell_same empty cells table number cell has =
    rw (cell_at-with_cell empty cells table number cell table number (inl has), eq-eqb table table refl, eq-eqb number number refl) refl

-- each other one stays
pub cell_at-with_cell_other : {T : Type 0} (empty : T) (cells : List (List T)) (table number : ℕ) (cell : T) (t n : ℕ) → (t ≡ table → n ≡ number → ⊥)
    → cell_at empty (with_cell table number cell cells) t n ≡ cell_at empty cells t n
unfolding cell_at
cell_at-with_cell_other empty cells table number cell t n apart =
    let row = set (row_of cells table) number cell in
    ⊎_elim
    (λ (same : t ≡ table).
    ⊎_elim
    (λ (inside : table < length cells).
    ap (λ (line : List _). get_or line n empty) (get_or-set_at cells table t row [] same inside)
    ∙ (get_or-set_other (row_of cells table) number n cell empty (λ (e : n ≡ number). apart same e)
    ∙ ap (λ (k : ℕ). get_or (row_of cells k) n empty) (sym same)))
    (λ (past : length cells ≤ table). ap (λ (all : List (List _)). get_or (row_of all t) n empty) (with_cell-past cells table number cell past))
    (cases_lt table (length cells)))
    (λ (other : t ≡ table → ⊥). ap (λ (line : List _). get_or line n empty) (get_or-set_other cells table t row [] other))
    (cases_eq t table)

-- no table has more or fewer cells
pub length-with_cell : {T : Type 0} (cells : List (List T)) (table number : ℕ) (cell : T) (t : ℕ) →
    length (row_of (with_cell table number cell cells) t) ≡ length (row_of cells t)
length-with_cell cells table number cell t =
    let row = set (row_of cells table) number cell in
    ⊎_elim
    (λ (inside : table < length cells).
    ap length (row_of-set cells table t row inside)
    ∙ ⊎_elim
    (λ (is : table ≡ t). rw (eq-eqb table t is) (length-set (row_of cells table) number cell ∙ ap (λ (k : ℕ). length (row_of cells k)) is))
    (λ (apart : table ≡ t → ⊥). rw (ne_eqb table t apart) refl)
    (cases_eq table t))
    (λ (past : length cells ≤ table). ap (λ (all : List (List _)). length (row_of all t)) (with_cell-past cells table number cell past))
    (cases_lt table (length cells))

pub HasCell-with_cell : {T : Type 0} (cells : List (List T)) (table number : ℕ) (cell : T) (t n : ℕ) → HasCell cells t n →
    HasCell (with_cell table number cell cells) t n
HasCell-with_cell cells table number cell t n has = record { below = rw (length-with_cell cells table number cell t) has.below }

-- ---- growth

pub IsGrown-refl : {T : Type 0} (empty : T) (cells : List (List T)) → IsGrown empty cells cells
IsGrown-refl empty cells = record { cells = λ table number. refl; room = λ table. le_refl _ }

pub IsGrown-trans : {T : Type 0} (empty : T) (a b c : List (List T)) → IsGrown empty a b → IsGrown empty b c → IsGrown empty a c
IsGrown-trans empty a b c ab bc = record {
  cells = λ table number. bc.cells table number ∙ ab.cells table number;
  room = λ table. let first = ab.room table in let second = bc.room table in omega (arith, first, second);
}

-- a cell that is there stays
pub HasCell-grown : {T : Type 0} (empty : T) (old new : List (List T)) (table number : ℕ) → IsGrown empty old new → HasCell old table number →
    HasCell new table number
HasCell-grown empty old new table number grown has = record { below = let more = grown.room table in let was = has.below in omega (arith, more, was) }
