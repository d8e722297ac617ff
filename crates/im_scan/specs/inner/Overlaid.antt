-- A view's own changes, laid over what was fetched.
use Rattle.std.specs.Prelude.{◌≡◌, ℕ, List, [], ◌∷◌, ◌++◌, drop, Option}
use Rattle.std.specs.Option.{unwrap_or}
use Rattle.im_history.specs.declared.view.View.{View}
use Rattle.im_history.specs.Last.{change_of}
use Rattle.im_history.specs.Rows.{Row}
use Rattle.im_scan.specs.declared.overlaid.Spot.{Spot}
use Rattle.im_scan.specs.declared.pieces.LentPiece.{LentPiece}
use Rattle.im_scan.specs.inner.Beside.{Beside}
use Rattle.im_scan.specs.inner.LentPieces.{in_lent_piece, in_lent_pieces}

-- what was fetched of a row number, once the last of a view's own changes to it is known
abbrev pub changed_by : View → ℕ × Option Row → ℕ × Option Row
changed_by view fetched = (fetched.0, unwrap_or (change_of view.own view.table fetched.0) fetched.1)

-- the rows of pieces, of the first one those from a place on
abbrev pub left_of : List LentPiece → ℕ → Beside
left_of [] from = []
left_of (piece ∷ pieces) from = drop from (in_lent_piece piece) ++ in_lent_pieces pieces

-- the rows of pieces from a place on
abbrev pub left_at : List LentPiece → Spot → Beside
left_at pieces spot = left_of (drop spot.piece pieces) spot.row

-- in the place of a row of this row number stands another one, or none, and else all is as before
pub record IsChangedIn (rid : ℕ) (row : Option Row) (old new : Beside) : Type 0 where
  pub before : Beside
  pub was : Option Row
  pub behind : Beside
  pub old_is : old ≡ before ++ (rid, was) ∷ behind
  pub new_is : new ≡ before ++ (rid, row) ∷ behind
