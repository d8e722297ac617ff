-- What was read, lent in pieces: each row with the defaults of the columns that it lacks.
use Rattle.std.specs.Prelude.{◌≡◌, ℕ, ◌+◌, ◌^◌, ◌≤◌, List, [], ◌∷◌, length, Option}
use Rattle.std.specs.List.{flat_map}
use Rattle.im_history.specs.declared.shown.Lying.{Lying}
use Rattle.im_history.specs.Fetched.{all_widened, each_at, in_pieces, run_from}
use Rattle.im_history.specs.Rows.{Row}
use Rattle.im_scan.specs.declared.pieces.LentPiece.{LentPiece}
use Rattle.im_scan.specs.declared.pieces.LentPiece.TheVariants.{Run, Each, One}

-- the row numbers of a piece, each with its row or none
abbrev pub in_lent_piece : LentPiece → List (ℕ × Option Row)
in_lent_piece (Run first rows) = run_from first rows
in_lent_piece (Each rids rows) = each_at rids.now rows
in_lent_piece (One rid row) = (rid, row) ∷ []

-- those of all pieces, one behind another
abbrev pub in_lent_pieces : List LentPiece → List (ℕ × Option Row)
in_lent_pieces pieces = flat_map in_lent_piece pieces

-- those of what lies in pieces, with its defaults
abbrev pub in_lying : Lying → List (ℕ × Option Row)
in_lying lying = all_widened lying.defaults.now (in_pieces lying.pieces.now)

-- the row numbers of a piece are numbers of 64 bits, one for each row
abbrev pub HasLentNumbers : LentPiece → Type 0
HasLentNumbers (Run first rows) = first + length rows ≤ 2 ^ 63
HasLentNumbers (Each rids rows) = length rids.now ≡ length rows
HasLentNumbers (One rid row) = Unit {0}
