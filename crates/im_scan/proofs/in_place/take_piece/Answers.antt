use Rattle.std.proofs.Common.{length, subst}
use Rattle.std.specs.List.{AllByRecursion}
use Rattle.im_scan.specs.Parts.{MayAsk}
use Rattle.im_scan.specs.declared.pieces.LentPiece.{LentPiece}
use Rattle.im_scan.specs.inner.LentPieces.{HasLentNumbers, in_lent_piece}
use Rattle.im_scan.specs.inner.Pieces.{HasRoomFor}
use Rattle.im_scan.proofs.PieceLemmas.{each-fits, room-each, room-run, run-fits}
use Rattle.im_scan.proofs.in_place.take_piece.Goals as goal

pub take_run-requires-clause-fits : goal.take_run-requires-clause-fits
take_run-requires-clause-fits c =
    run-fits c.args.asking.now c.in-Run.first c.in-Run.rows
    (subst (λ (p : LentPiece). AllByRecursion (λ row. MayAsk c.args.asking.now row.1) (in_lent_piece p)) c.in-Run.is c.requires.fits)

pub take_run-requires-clause-few : goal.take_run-requires-clause-few
take_run-requires-clause-few c =
    room-run c.args.asking.now c.in-Run.first c.in-Run.rows c.args.part.now
    (subst (λ (p : LentPiece). HasRoomFor c.args.asking.now (length (in_lent_piece p)) c.args.part.now) c.in-Run.is c.requires.few)

pub take_scattered-requires-clause-fits : goal.take_scattered-requires-clause-fits
take_scattered-requires-clause-fits c =
    each-fits c.args.asking.now c.in-Each.rids.now c.in-Each.rows (subst HasLentNumbers c.in-Each.is c.requires.numbers)
    (subst (λ (p : LentPiece). AllByRecursion (λ row. MayAsk c.args.asking.now row.1) (in_lent_piece p)) c.in-Each.is c.requires.fits)

pub take_scattered-requires-clause-few : goal.take_scattered-requires-clause-few
take_scattered-requires-clause-few c =
    room-each c.args.asking.now c.in-Each.rids.now c.in-Each.rows c.args.part.now (subst HasLentNumbers c.in-Each.is c.requires.numbers)
    (subst (λ (p : LentPiece). HasRoomFor c.args.asking.now (length (in_lent_piece p)) c.args.part.now) c.in-Each.is c.requires.few)
