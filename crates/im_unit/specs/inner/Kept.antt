-- How the rows of a unit are kept: which are present, and the columns of those.
use Rattle.std.specs.Prelude.{◌≡◌, ℕ, ◌+◌, ◌*◌, ◌/◌, ◌^◌, ◌<◌, Bool, true, false, List, [], ◌∷◌, length, map, take, get_or, count_by, Option, Some, None}
use Rattle.std.specs.List.{All, range_with_len}
use denote.Ref.{Bor}
use Rattle.im_values.specs.declared.content.Content.{Content as Value}
use Rattle.im_values.specs.declared.content.Content.TheVariants.{Null}
use Rattle.im_values.specs.Sizes.{column_bytes}
use Rattle.im_values.specs.Widened.{widened}
use Rattle.im_column.specs.Forms.{AreLent, IsShort}
use Rattle.im_history.specs.Rows.{Row}
use Rattle.im_history.specs.Units.{Content}
pub use Rattle.im_unit.specs.Holding.{row_across}

-- how many of the flags are set
abbrev pub count_set : List Bool → ℕ
count_set flags = count_by (λ flag. flag) flags

-- how many flags are set before each 64th one
abbrev pub ranks_of : List Bool → List ℕ
ranks_of flags = map (λ i. count_set (take (i * 64) flags)) (range_with_len 0 (length flags / 64 + 1))

-- rows, put one after another where a flag is set
abbrev pub spread : List Bool → List Row → List (Option Row)
spread [] rows = []
spread (false ∷ flags) rows = None ∷ spread flags rows
spread (true ∷ flags) [] = None ∷ spread flags []
spread (true ∷ flags) (row ∷ rows) = Some row ∷ spread flags rows

-- a place takes its row from those that come next, where its flag is set
pub record Takes (flag : Bool) (old : List Row) (slot : Option Row) (new : List Row) : Type 0 where
  pub spreads : (flags : List Bool) → spread (flag ∷ flags) old ≡ slot ∷ spread flags new

-- so many rows across columns
abbrev pub rows_across : List (List Value) → ℕ → List Row
rows_across columns count = map (row_across columns) (range_with_len 0 count)

-- so many rows across columns, from a place on
abbrev pub rows_from : List (List Value) → ℕ → ℕ → List Row
rows_from columns first count = map (row_across columns) (range_with_len first count)

-- the values that are lent
abbrev pub lent_values : List (Bor Value) → List Value
lent_values values = map (λ value. value.now) values

-- columns lend their values at 64 places from one on
pub record IsPiece (columns : List (List Value)) (first : ℕ) (piece : List (List (Bor Value))) : Type 0 where
  pub many : length piece ≡ length columns
  pub lends : (i : ℕ) → i < length columns → AreLent (λ k. get_or (get_or columns i []) (first + k) Null) 64 (lent_values (get_or piece i []))

-- the rows that flags and columns stand for
unfoldable pub rows_kept : List Bool → List (List Value) → List (Option Row)
rows_kept flags columns = spread flags (rows_across columns (count_set flags))

-- what a unit holds that keeps such flags and columns
abbrev pub content_kept : ℕ → ℕ → ℕ → List Bool → List (List Value) → Content
content_kept scn first width flags columns = record { scn = scn; first = first; columns = width; rows = rows_kept flags columns }

-- each column has so many values
abbrev pub HaveLength : ℕ → List (List Value) → Type 0
HaveLength count columns = All (λ column. length column ≡ count) columns

-- rows of a width, without a text that is too long
pub record AreRows (width : ℕ) (rows : List Row) : Type 0 where
  pub wide : All (λ row. length row ≡ width) rows
  pub short : All (λ row. All IsShort row) rows
  pub few : length rows < 2 ^ 31

-- rows that are lent
abbrev pub lent : List (Bor Row) → List Row
lent rows = map (λ row. row.now) rows

-- the same, each with these defaults from its length on
abbrev pub lent_wide : List Value → List (Bor Row) → List Row
lent_wide defaults rows = map (λ row. widened defaults row.now) rows

-- no column counts for 2^49 bytes
abbrev pub AreBounded : List (List Value) → Type 0
AreBounded columns = All (λ column. column_bytes column < 2 ^ 49) columns
