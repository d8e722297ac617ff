-- The lock cells of all rows, by table and row number.
use Rattle.std.specs.Prelude.{ℕ, zero, suc, ◌+◌, ◌==◌, ◌≤◌, ◌<◌, List, fold, All, Option, Some, None, if◌then◌else◌}
use Rattle.im_history.specs.declared.change.Change.{Change}
use Rattle.im_tables.specs.Table.{HasCell, IsGrown, cell_at, with_cell}

-- a cell for each row: 0 where the row is free, else one more than the number of its holder
abbrev pub Locks : Type 0
Locks = List (List ℕ)

-- the cell of a row, free past the last row
abbrev pub lock_of : Locks → ℕ → ℕ → ℕ
lock_of locks table rid = cell_at 0 locks table rid

-- the cells with that of the row of this change set, if it is there
abbrev pub set_cell : ℕ → Locks → Change → Locks
set_cell value locks change = with_cell change.table change.rid value locks

-- the cells with those of the rows of these changes set
abbrev pub set_cells : ℕ → Locks → List Change → Locks
set_cells value locks changes = fold (set_cell value) locks changes

-- there is a cell for the row of each change
pub record HasCells (locks : Locks) (changes : List Change) : Type 0 where
  pub each : All (λ change. HasCell locks change.table change.rid) changes

-- there is a cell for each of so many rows of a table from the first on
pub record HasRows (locks : Locks) (table first count : ℕ) : Type 0 where
  pub each : (rid : ℕ) → first ≤ rid → rid < first + count → HasCell locks table rid

-- every cell is as before, and each table has no fewer
abbrev pub IsLonger : Locks → Locks → Type 0
IsLonger old new = IsGrown 0 old new

-- the holder that a cell names, if it is another than this session
abbrev pub other_in : ℕ → ℕ → Option ℕ
other_in who zero = None
other_in who (suc owner) = if owner == who then None else Some owner
