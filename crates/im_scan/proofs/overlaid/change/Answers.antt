use Rattle.std.proofs.Common.{◌<◌, ◌++◌, drop, length, arith, subst}
use Rattle.im_scan.specs.inner.LentPieces.{in_lent_pieces}
use Rattle.im_scan.specs.declared.overlaid.Spot.{Spot}
use Rattle.im_scan.specs.inner.Beside.{Beside}
use Rattle.im_scan.specs.inner.Overlaid.{IsChangedIn, left_at, left_of}
use Rattle.im_scan.proofs.OverlaidLemmas.{change-left}
use Rattle.im_scan.proofs.PieceLemmas.{some-inj}
use Rattle.im_scan.proofs.overlaid.change.Goals as goal

pub returns-in-Some-clause-changed : goal.returns-in-Some-clause-changed
returns-in-Some-clause-changed c next is =
    let fetched = c.args.fetched.now in
    let mid = in_lent_pieces c.pass_below.new.pieces.items in
    let new = in_lent_pieces c.change_piece.new.pieces.items in
    let rid = c.args.rid in
    let row = c.args.row in
    let at = c.in_ok-here.here.piece in
    let behind = c.in-Some.next in
    let within : at < length fetched = omega (arith, c.if-here-fetched.false) in
    subst (λ (spot : Spot). IsChangedIn rid row (in_lent_pieces c.args.pieces.now.items ++ left_at fetched c.args.spot) (new ++ left_at fetched spot))
    (some-inj is)
    (subst (λ (l : Beside). IsChangedIn rid row l (new ++ left_of (drop at fetched) behind)) c.in_ok-here.ensures.whole
    (change-left fetched at c.in_ok-here.here.row behind rid c.index-fetched-here.result row mid new within c.index-fetched-here.is
    (c.in_ok-next.ensures.changed behind c.in-Some.is)))
