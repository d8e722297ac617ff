use Rattle.std.proofs.Common.{◌≡◌, ℕ, ◌-◌, ◌<◌, ◌++◌, ◌∷◌, [], drop, length, ap, subst, arith, ◌∙◌}
use Rattle.im_scan.specs.declared.pieces.LentPiece.TheVariants.{One}
use Rattle.im_history.specs.Fetched.{run_from}
use Rattle.im_scan.specs.inner.LentPieces.{in_lent_piece, in_lent_pieces}
use Rattle.im_scan.specs.inner.Overlaid.{IsChangedIn}
use Rattle.im_scan.proofs.OverlaidLemmas.{change-run}
use Rattle.im_scan.proofs.PieceLemmas.{pieces-push, some-inj}
use Rattle.im_scan.proofs.overlaid.change_run.Goals as goal

pub returns-clause-changed : goal.returns-clause-changed
returns-clause-changed c next is =
    let old = in_lent_pieces c.args.pieces.now.items in
    let mid = in_lent_pieces c.put_rows.new.pieces.items in
    let new = in_lent_pieces c.push.new.self.items in
    let first = c.args.first in
    let from = c.args.from in
    let rid = c.args.rid in
    let run = c.args.run.now in
    let row = c.args.row in
    let pushed : new ≡ mid ++ (rid, row) ∷ [] =
    ap in_lent_pieces c.in_ok-push.ensures.items
    ∙ pieces-push in_lent_piece c.put_rows.new.pieces.items (One rid row) in
    let within : rid - first < length run = omega (arith, c.len.ensures, c.if-rid-first-2.false) in
    subst (λ (n : ℕ). IsChangedIn rid row (old ++ drop from (run_from first run)) (new ++ drop n (run_from first run))) (some-inj is)
    (change-run first from rid run row old mid new c.if-rid-first.false c.if-at-from.false within c.in_ok-put_rows.ensures.rows pushed)
