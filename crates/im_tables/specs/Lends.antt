-- What cells end as, once a borrow of one of them has ended.
use Rattle.std.specs.Prelude.{ℕ, List, Option, set}
use Rattle.std.specs.Borrow.{Fml, Lends, LendsIf, MutBor, RattleType}
use Rattle.im_tables.specs.Table.{with_cell}
use Rattle.im_tables.specs.contracts.cells.Cells as all
use Rattle.im_tables.specs.contracts.line.Line as line

module _ (T : RattleType) where
  -- the cell of this number is what the borrow leaves, and where there is none, all stays
  abbrev pub lends_of_line : MutBor (List T.Denot) → ℕ → Option (MutBor T.Denot) → Fml
  lends_of_line cells number lent = LendsIf (line.the_row T) T cells lent (set cells.now number) cells.now

  -- the same in all tables
  abbrev pub lends_of_table : MutBor (List (List T.Denot)) → ℕ → ℕ → Option (MutBor T.Denot) → Fml
  lends_of_table cells table number lent =
      LendsIf (all.the_row T) T cells lent (λ cell. with_cell table number cell cells.now) cells.now

  -- the cell of this number, which is there, is what the borrow leaves
  abbrev pub lends_place : MutBor (List T.Denot) → ℕ → MutBor T.Denot → Fml
  lends_place cells number lent = Lends (line.the_row T) T cells lent (set cells.now number)

  -- the same in all tables
  abbrev pub lends_cell : MutBor (List (List T.Denot)) → ℕ → ℕ → MutBor T.Denot → Fml
  lends_cell cells table number lent = Lends (all.the_row T) T cells lent (λ cell. with_cell table number cell cells.now)
