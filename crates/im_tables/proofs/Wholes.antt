-- All cells of a table written anew.
use Rattle.std.proofs.Common.{◌≡◌, ℕ, ◌<◌, ◌≤◌, List, [], ◌++◌, drop, length, get_or, set, take, ⊎_elim, refl, ap, ◌∙◌, arith, append-nil}
use Rattle.std.proofs.lemmas.Bool.{cases_eq}
use Rattle.std.proofs.lemmas.Grind.{get_or-set_at}
use Rattle.std.proofs.lemmas.List.{drop_all, get_or-set_other, take_all}
use Rattle.im_tables.specs.Table.{HasCell, cell_at, row_of}
use Rattle.im_tables.specs.Wholes.{written}

-- as many cells as there were are those that are left
pub written-all : {T : Type 0} (cells others : List T) → length others ≡ length cells → written cells others ≡ others
written-all cells others long =
    let none : drop (length others) cells ≡ [] = ap (λ (n : ℕ). drop n cells) long ∙ drop_all (length cells) cells (omega arith) in
    ap (λ (rest : List _). take (length cells) (others ++ rest)) none
    ∙ (ap (λ (all : List _). take (length cells) all) (append-nil others)
    ∙ take_all (length cells) others (omega (arith, long)))

-- the cells of the table are the new ones
pub cell_at-written : {T : Type 0} (empty : T) (cells : List (List T)) (table number : ℕ) (row : List T) → table < length cells →
    cell_at empty (set cells table row) table number ≡ get_or row number empty
unfolding cell_at
cell_at-written empty cells table number row inside =
    ap (λ (line : List _). get_or line number empty) (get_or-set_at cells table table row [] refl inside)

-- each other table has its own
pub cell_at-unwritten : {T : Type 0} (empty : T) (cells : List (List T)) (table : ℕ) (row : List T) (t number : ℕ) → (t ≡ table → ⊥) →
    cell_at empty (set cells table row) t number ≡ cell_at empty cells t number
unfolding cell_at
cell_at-unwritten empty cells table row t number other =
    ap (λ (line : List _). get_or line number empty) (get_or-set_other cells table t row [] other)

-- a cell that is there stays, where no fewer are written
pub HasCell-written : {T : Type 0} (cells : List (List T)) (table : ℕ) (row : List T) (t number : ℕ) → table < length cells →
    length (row_of cells table) ≤ length row → HasCell cells t number → HasCell (set cells table row) t number
HasCell-written cells table row t number inside long has =
    let below = has.below in
    ⊎_elim
    (λ (is : t ≡ table).
    let now = ap length (get_or-set_at cells table t row [] is inside) in
    let was = ap (λ (k : ℕ). length (row_of cells k)) is in
    record { below = omega (arith, now, was, long, below) })
    (λ (other : t ≡ table → ⊥).
    let same = ap length (get_or-set_other cells table t row [] other) in
    record { below = omega (arith, same, below) })
    (cases_eq t table)

-- a cell read in the cells of its table
pub cell_at-line : {T : Type 0} (empty : T) (cells : List (List T)) (table number : ℕ) (row : List T) → row ≡ row_of cells table →
    get_or row number empty ≡ cell_at empty cells table number
unfolding cell_at
cell_at-line empty cells table number row is = ap (λ (line : List _). get_or line number empty) is
