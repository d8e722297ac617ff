use Rattle.std.proofs.Common.{◌≡◌, List, subst}
use Rattle.std.proofs.lemmas.List.{take_all}
use Rattle.im_group.specs.Partials.{partial}
use Rattle.im_scan.specs.declared.pieces.LentPiece.{LentPiece}
use Rattle.im_scan.specs.inner.LentPieces.{in_lent_piece, in_lent_pieces}
use Rattle.im_scan.specs.inner.Pieces.{numbered_all}
use Rattle.im_scan.proofs.PieceLemmas.{piece-fits, pieces-taken, room-piece}
use Rattle.im_scan.proofs.in_place.part_of_lent.Goals as goal

pub take_piece-requires-clause-fits : goal.take_piece-requires-clause-fits
take_piece-requires-clause-fits c =
    piece-fits in_lent_piece c.args.asking.now c.args.pieces.now c.loop-piece.piece-index c.piece-item.result c.loop-piece-test.true c.piece-item.is
    c.requires.fits

pub take_piece-requires-clause-few : goal.take_piece-requires-clause-few
take_piece-requires-clause-few c =
    room-piece in_lent_piece c.args.asking.now c.args.pieces.now c.loop-piece.piece-index c.piece-item.result c.loop-piece.part
    c.loop-piece-test.true c.piece-item.is c.requires.few c.loop-piece.invariant

pub loop-piece-preserved : goal.loop-piece-preserved
loop-piece-preserved c =
    pieces-taken in_lent_piece c.args.asking.now c.args.pieces.now c.loop-piece.piece-index c.piece-item.result c.loop-piece.part c.take_piece.new.part
    c.loop-piece-test.true c.piece-item.is c.loop-piece.invariant c.in_ok-take_piece.ensures

pub returns : goal.returns
returns c =
    subst (λ (l : List LentPiece). c.loop-piece.part ≡ partial c.args.asking.now (numbered_all (in_lent_pieces l)))
    (take_all c.loop-piece.piece-index c.args.pieces.now c.loop-piece-test.false) c.loop-piece.invariant
