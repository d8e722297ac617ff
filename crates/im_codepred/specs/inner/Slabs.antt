-- Rows that are asked together: those of columns, or those of a run.
use Rattle.std.specs.Prelude.{ℕ, ◌<◌, ◌^◌, Bool, List, [], length, map, get_or}
use Rattle.std.specs.Arc.{arc_value}
use Rattle.std.specs.List.{range_with_len}
use Rattle.im_values.specs.declared.content.Content.{Content as Value}
use Rattle.im_syntax.specs.BoundFits.{value_at}
use Rattle.im_codepred.specs.declared.slab.Slab.{Slab}
use Rattle.im_codepred.specs.declared.slab.Slab.TheVariants as of
use Rattle.im_codepred.specs.Selection.{AreLong, row_at}

-- how many rows there are
abbrev pub count_of : Slab → ℕ
count_of (of.Columns columns n) = n
count_of (of.Run rows) = length rows.now

-- the row at a position
abbrev pub row_of : Slab → ℕ → List Value
row_of (of.Columns columns n) i = row_at (map arc_value columns.now) i
row_of (of.Run rows) i = get_or rows.now i []

-- of each row whether it passes
abbrev pub passing : (List Value → Bool) → Slab → List Bool
passing test slab = map (λ i. test (row_of slab i)) (range_with_len 0 (count_of slab))

-- a fact of each row
abbrev pub OfEach : (List Value → Type 0) → Slab → Type 0
OfEach P slab = (i : ℕ) → i < count_of slab → P (row_of slab i)

-- the columns are of one length
abbrev pub AreAligned : Slab → Type 0
AreAligned (of.Columns columns n) = AreLong (map arc_value columns.now) n
AreAligned (of.Run rows) = Unit {0}

-- rows that may be asked: there is one at least, fewer than 2^31, and each has a value in each column
pub record IsWhole (slab : Slab) : Type 0 where
  pub some : 0 < count_of slab
  pub few : count_of slab < 2 ^ 31
  pub aligned : AreAligned slab

-- the values of rows in a column
abbrev pub column_of : List (List Value) → ℕ → List Value
column_of rows column = map (λ row. value_at row column) rows
