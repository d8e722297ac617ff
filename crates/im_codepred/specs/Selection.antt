-- Which rows of columns a condition chooses.
use Rattle.std.specs.Prelude.{◌≡◌, ℕ, ◌<◌, Bool, List, All, length, map, get_or}
use Rattle.std.specs.List.{range_with_len}
use Rattle.im_values.specs.declared.truth.Truth.{Truth}
use Rattle.im_values.specs.declared.content.Content.{Content as Value}
use Rattle.im_values.specs.declared.content.Content.TheVariants.{Null}
use Rattle.im_codepred.specs.declared.asked.Wanted.{Wanted}
use Rattle.im_codepred.specs.Asked.{met}

-- the row of the values at a position of columns
abbrev pub row_at : List (List Value) → ℕ → List Value
row_at columns i = map (λ column. get_or column i Null) columns

-- of each of so many rows whether its truth is the one that is wanted
abbrev pub rows_met : Wanted → (List Value → Truth) → List (List Value) → ℕ → List Bool
rows_met wanted truth columns n = map (λ i. met wanted (truth (row_at columns i))) (range_with_len 0 n)

-- each column has so many values
abbrev pub AreLong : List (List Value) → ℕ → Type 0
AreLong columns n = All (λ column. length column ≡ n) columns

-- a fact of each of so many rows
abbrev pub OfRows : (List Value → Type 0) → List (List Value) → ℕ → Type 0
OfRows P columns n = (i : ℕ) → i < n → P (row_at columns i)
