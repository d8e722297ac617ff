-- Cells by table and number, of which growth is never seen.
use Rattle.std.specs.Prelude.{◌≡◌, ℕ, ◌<◌, ◌≤◌, ◌⊎◌, List, [], length, get_or, set, slice_get, fold, Option}
use Rattle.std.specs.List.{range_with_len}

module _ {T : Type 0} where
  -- the cells of a table; past the last table there are none
  abbrev pub row_of : List (List T) → ℕ → List T
  row_of cells table = get_or cells table []

  -- the cell of a number of a table, if there is one
  abbrev pub found_at : List (List T) → ℕ → ℕ → Option T
  found_at cells table number = slice_get (row_of cells table) number

  -- the cell of a number of a table; past the ends it is the empty one
  unfoldable pub cell_at : T → List (List T) → ℕ → ℕ → T
  cell_at empty cells table number = get_or (row_of cells table) number empty

  -- there is a cell of this number of a table
  pub record HasCell (cells : List (List T)) (table number : ℕ) : Type 0 where
    pub below : number < length (row_of cells table)

  -- all cells, this one being another, if it is there
  abbrev pub with_cell : ℕ → ℕ → T → List (List T) → List (List T)
  with_cell table number cell cells = set cells table (set (row_of cells table) number cell)

  -- the elements from a place on, so many as are there of these, being another one
  abbrev pub with_range : ℕ → ℕ → T → List T → List T
  with_range first count element xs = fold (λ xs place. set xs place element) xs (range_with_len first count)

  -- all cells, those of a table from a number on, so many as are there of these, being another one
  abbrev pub with_cells : ℕ → ℕ → ℕ → T → List (List T) → List (List T)
  with_cells table first count cell cells = fold (λ cells number. with_cell table number cell cells) cells (range_with_len first count)

  -- the list may have grown by default elements: at no place is another one read than before
  pub record IsPadded (default : T) (old new : List T) : Type 0 where
    pub each : (i : ℕ) → get_or new i default ≡ get_or old i default
    pub longer : length old ≤ length new

  -- each cell is as before, and no table has fewer
  pub record IsGrown (empty : T) (old new : List (List T)) : Type 0 where
    pub cells : (table number : ℕ) → cell_at empty new table number ≡ cell_at empty old table number
    pub room : (table : ℕ) → length (row_of old table) ≤ length (row_of new table)

  -- no cell was added but those of a table up to this number
  pub record AddsUpTo (table number : ℕ) (old new : List (List T)) : Type 0 where
    pub each : (t n : ℕ) → HasCell new t n → HasCell old t n ⊎ ((t ≡ table) × (n ≤ number))
