use Rattle.std.proofs.Common.{◌≡◌, ◌++◌, ◌∷◌, [], drop, ap, arith, subst, sym, ◌∙◌}
use Rattle.std.specs.Prelude.{IfOk}
use Rattle.std.specs.Option.{ForSome}
use Rattle.im_scan.specs.declared.pieces.LentPiece.{LentPiece}
use Rattle.im_scan.specs.declared.pieces.LentPiece.TheVariants.{One}
use Rattle.im_scan.specs.inner.LentPieces.{in_lent_piece, in_lent_pieces}
use Rattle.im_scan.specs.inner.Overlaid.{IsChangedIn}
use Rattle.im_scan.proofs.OverlaidLemmas.{change-one}
use Rattle.im_scan.proofs.PieceLemmas.{pieces-push, some-inj}
use Rattle.im_scan.proofs.overlaid.change_piece.Goals as goal

pub returns-in-Run-clause-changed : goal.returns-in-Run-clause-changed
returns-in-Run-clause-changed c =
    let old = in_lent_pieces c.args.pieces.now.items in
    let new = in_lent_pieces c.change_run.new.pieces.items in
    subst (λ (p : LentPiece). IfOk c.change_run.result (λ next. ForSome next (λ next.
    IsChangedIn c.args.rid c.args.row (old ++ drop c.args.from (in_lent_piece p)) (new ++ drop next (in_lent_piece p))))) (sym c.in-Run.is)
    c.change_run.ensures.changed

pub returns-in_ok-push-in-One-clause-changed : goal.returns-in_ok-push-in-One-clause-changed
returns-in_ok-push-in-One-clause-changed c next is =
    let old = in_lent_pieces c.args.pieces.now.items in
    let new = in_lent_pieces c.push.new.self.items in
    let from = c.args.from in
    let rid = c.args.rid in
    let row = c.args.row in
    let pushed : new ≡ old ++ (rid, row) ∷ [] =
    ap in_lent_pieces c.in_ok-push-in-One.ensures.items
    ∙ pieces-push in_lent_piece c.args.pieces.now.items (One rid row) in
    let begins : from ≡ 0 = omega (arith, c.if-from-gt0.false) in
    subst (λ (p : LentPiece). IsChangedIn rid row (old ++ drop from (in_lent_piece p)) (new ++ drop next (in_lent_piece p))) (sym c.in-One.is)
    (change-one c.in-One.number from next rid c.in-One.field-1 row old new c.if-number-rid.false begins (some-inj is) pushed)
