use Rattle.std.proofs.Common.{ℕ, List, Option, length, subst, sym}
use Rattle.std.proofs.lemmas.List.{take_all}
use Rattle.std.specs.List.{AllByRecursion, flat_map}
use Rattle.im_history.specs.declared.fetched.Piece.{Piece}
use Rattle.im_history.specs.Rows.{Row}
use Rattle.im_history.proofs.FetchedLaws.{in_pieces-widened, piece_widened}
use Rattle.im_scan.specs.Parts.{MayAsk}
use Rattle.im_scan.specs.inner.Pieces.{HasRoomFor, numbered_all}
use Rattle.im_scan.specs.inner.Steps.{GoesOnBy}
use Rattle.im_scan.proofs.PieceLemmas.{goes-nowhere, piece-fits, pieces-taken-behind, room-piece-behind}
use Rattle.im_scan.proofs.in_place.take_pieces.Goals as goal

pub take_piece-requires-clause-fits : goal.take_piece-requires-clause-fits
take_piece-requires-clause-fits c =
    let bound = c.args.asking.now in
    let defaults = c.args.lying.defaults.now in
    let pieces = c.args.lying.pieces.now in
    subst (λ (l : List (ℕ × Option Row)). AllByRecursion (λ row. MayAsk bound row.1) l) (sym c.lent_piece-lent.ensures.rows)
    (piece-fits (piece_widened defaults) bound pieces c.loop-piece.piece-index c.piece-item.result c.loop-piece-test.true c.piece-item.is
    (subst (λ (l : List (ℕ × Option Row)). AllByRecursion (λ row. MayAsk bound row.1) l) (in_pieces-widened defaults pieces) c.requires.fits))

pub take_piece-requires-clause-few : goal.take_piece-requires-clause-few
take_piece-requires-clause-few c =
    let bound = c.args.asking.now in
    let defaults = c.args.lying.defaults.now in
    let pieces = c.args.lying.pieces.now in
    subst (λ (l : List (ℕ × Option Row)). HasRoomFor bound (length l) c.loop-piece.part) (sym c.lent_piece-lent.ensures.rows)
    (room-piece-behind (piece_widened defaults) bound pieces c.loop-piece.piece-index c.piece-item.result c.args.part.now c.loop-piece.part
    c.loop-piece-test.true c.piece-item.is
    (subst (λ (l : List (ℕ × Option Row)). HasRoomFor bound (length l) c.args.part.now) (in_pieces-widened defaults pieces) c.requires.few)
    c.loop-piece.invariant)

pub loop-piece-init : goal.loop-piece-init
loop-piece-init c = goes-nowhere c.args.asking.now c.args.part.now

pub loop-piece-preserved : goal.loop-piece-preserved
loop-piece-preserved c =
    let bound = c.args.asking.now in
    let defaults = c.args.lying.defaults.now in
    let pieces = c.args.lying.pieces.now in
    pieces-taken-behind (piece_widened defaults) bound pieces c.loop-piece.piece-index c.piece-item.result c.args.part.now c.loop-piece.part
    c.take_piece.new.part c.loop-piece-test.true c.piece-item.is c.loop-piece.invariant
    (subst (λ (l : List (ℕ × Option Row)). GoesOnBy bound c.loop-piece.part (numbered_all l) c.take_piece.new.part) c.lent_piece-lent.ensures.rows
    c.in_ok-take_piece.ensures)

pub returns : goal.returns
returns c =
    let bound = c.args.asking.now in
    let defaults = c.args.lying.defaults.now in
    let pieces = c.args.lying.pieces.now in
    subst (λ (l : List (ℕ × Option Row)). GoesOnBy bound c.args.part.now (numbered_all l) c.loop-piece.part) (sym (in_pieces-widened defaults pieces))
    (subst (λ (l : List Piece). GoesOnBy bound c.args.part.now (numbered_all (flat_map (piece_widened defaults) l)) c.loop-piece.part)
    (take_all c.loop-piece.piece-index pieces c.loop-piece-test.false) c.loop-piece.invariant)
