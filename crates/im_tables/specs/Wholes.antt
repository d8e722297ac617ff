-- What cells end as, once a borrow of all cells of a table has ended.
use Rattle.std.specs.Prelude.{ℕ, List, ◌++◌, drop, length, set, take}
use Rattle.std.specs.Borrow.{Array, Fml, Lends, MutBor, RattleType}
use Rattle.im_tables.specs.Table.{row_of}
use Rattle.im_tables.specs.contracts.cells.Cells as all
use Rattle.im_tables.specs.contracts.line.Line as line

-- cells that others were written over, from the first on: the others, where they are as many
abbrev pub written : {T : Type 0} → List T → List T → List T
written cells others = take (length cells) (others ++ drop (length others) cells)

module _ (T : RattleType) where
  -- the cells are what the borrow leaves
  abbrev pub lends_line : MutBor (List T.Denot) → MutBor (List T.Denot) → Fml
  lends_line cells lent = Lends (line.the_row T) (Array T 0) cells lent (written cells.now)

  -- those of one table are, in all tables
  abbrev pub lends_cells_of : MutBor (List (List T.Denot)) → ℕ → MutBor (List T.Denot) → Fml
  lends_cells_of cells table lent =
      Lends (all.the_row T) (Array T 0) cells lent (λ left. set cells.now table (written (row_of cells.now table) left))
