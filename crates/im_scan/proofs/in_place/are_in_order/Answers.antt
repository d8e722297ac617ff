use Rattle.std.proofs.Common.{◌≡◌, ◌+◌, ◌<◌, ◌^◌, List, length, take, subst, arith}
use Rattle.std.proofs.lemmas.List.{take_all}
use Rattle.im_history.specs.declared.fetched.Piece.{Piece}
use Rattle.im_history.specs.Fetched.{in_piece, in_pieces}
use Rattle.im_history.proofs.FetchedLaws.{length-widened}
use Rattle.im_scan.specs.inner.Pieces.{AreInOrder}
use Rattle.im_scan.proofs.PieceLemmas.{in-order-more, next-within, order-widened}
use Rattle.im_scan.proofs.in_place.are_in_order.Goals as goal

pub overflow_add-next : goal.overflow_add-next
overflow_add-next c =
    let pieces = c.args.lying.pieces.now in
    let long = length-widened c.args.lying.defaults.now (in_pieces pieces) in
    let few : c.args.first + length (in_pieces pieces) < 2 ^ 64 = omega (arith, long, c.requires) in
    let less = next-within in_piece c.args.first c.in-Some.rid c.in-Some.count c.loop-piece.next c.loop-piece.piece-index pieces
    c.piece-item.result c.loop-piece-test.true c.piece-item.is c.loop-piece.invariant (c.span.ensures (c.in-Some.rid, c.in-Some.count) c.in-Some.is) few in
    omega (arith, less)

pub loop-piece-preserved : goal.loop-piece-preserved
loop-piece-preserved c =
    in-order-more in_piece c.args.first c.in-Some.rid c.in-Some.count c.loop-piece.next c.loop-piece.piece-index c.args.lying.pieces.now
    c.piece-item.result c.loop-piece-test.true c.piece-item.is c.loop-piece.invariant c.if-rid-next.false (c.span.ensures (c.in-Some.rid, c.in-Some.count) c.in-Some.is)

pub returns : goal.returns
returns c is =
    let pieces = c.args.lying.pieces.now in
    let all : take c.loop-piece.piece-index pieces ≡ pieces = take_all c.loop-piece.piece-index pieces c.loop-piece-test.false in
    order-widened c.args.lying.defaults.now c.args.first (in_pieces pieces)
    (subst (λ (l : List Piece). AreInOrder c.args.first (in_pieces l)) all c.loop-piece.invariant.order)
