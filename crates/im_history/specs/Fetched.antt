-- What is read of row numbers, in pieces.
use Rattle.std.specs.Prelude.{◌≡◌, ℕ, ◌+◌, ◌^◌, ◌≤◌, List, [], ◌∷◌, length, map, Option, Some}
use Rattle.std.specs.List.{flat_map}
use Rattle.std.specs.Option.{option_map}
use Rattle.im_values.specs.declared.content.Content.{Content as Value}
use Rattle.im_values.specs.Widened.{widened}
use Rattle.im_history.specs.declared.fetched.Piece.{Piece}
use Rattle.im_history.specs.declared.fetched.Piece.TheVariants.{Run, Each, One}

-- rows from a row number on, each with its own
abbrev pub run_from : ℕ → List (List Value) → List (ℕ × Option (List Value))
run_from first [] = []
run_from first (row ∷ rows) = (first, Some row) ∷ run_from (first + 1) rows

-- rows, each at a row number of its own
abbrev pub each_at : List ℕ → List (List Value) → List (ℕ × Option (List Value))
each_at [] rows = []
each_at (rid ∷ rids) [] = []
each_at (rid ∷ rids) (row ∷ rows) = (rid, Some row) ∷ each_at rids rows

-- the row numbers of a piece, each with its row or none
abbrev pub in_piece : Piece → List (ℕ × Option (List Value))
in_piece (Run first rows) = run_from first rows
in_piece (Each rids rows) = each_at rids.items rows
in_piece (One rid row) = (rid, row) ∷ []

-- those of all pieces, one behind another
abbrev pub in_pieces : List Piece → List (ℕ × Option (List Value))
in_pieces pieces = flat_map in_piece pieces

-- row numbers, each with its row or none, the rows with these defaults from their length on
abbrev pub all_widened : List Value → List (ℕ × Option (List Value)) → List (ℕ × Option (List Value))
all_widened defaults rows = map (λ row. (row.0, option_map (widened defaults) row.1)) rows

-- the row numbers of a piece are numbers of 64 bits, one for each row
abbrev pub HasNumbers : Piece → Type 0
HasNumbers (Run first rows) = first + length rows ≤ 2 ^ 63
HasNumbers (Each rids rows) = length rids.items ≡ length rows
HasNumbers (One rid row) = Unit {0}
