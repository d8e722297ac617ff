-- What stands beside a unit, and the pieces that it lies in.
use Rattle.std.specs.Prelude.{◌≡◌, All}
use Rattle.std.specs.Option.{ForSome}
use Rattle.im_history.specs.Fetched.{HasNumbers}
use Rattle.im_scan.specs.declared.beside.RowsBeside.{RowsBeside}
use Rattle.im_scan.specs.inner.LentPieces.{in_lying}

-- the pieces, where there are any, have just these rows
abbrev pub LieIn : RowsBeside → Type 0
LieIn beside = ForSome beside.pieces (λ lying. All HasNumbers lying.pieces.now × (in_lying lying ≡ beside.rows.now))
