use Rattle.std.proofs.Common.{ℕ, ◌+◌, ◌-◌, ◌++◌, drop, take, ap, sym, ◌∙◌}
use Rattle.im_scan.specs.declared.pieces.LentPiece.{LentPiece}
use Rattle.im_history.specs.Fetched.{run_from}
use Rattle.im_scan.specs.inner.LentPieces.{in_lent_piece, in_lent_pieces}
use Rattle.im_scan.specs.inner.Beside.{Beside}
use Rattle.im_scan.proofs.OverlaidLemmas.{rest-run}
use Rattle.im_scan.proofs.overlaid.put_below.Goals as goal

pub returns-in_ok-put_rows-in-Run-clause-put : goal.returns-in_ok-put_rows-in-Run-clause-put
returns-in_ok-put_rows-in-Run-clause-put c is =
    let old = in_lent_pieces c.args.pieces.now.items in
    let from = c.args.from in
    let first = c.in-Run.first in
    let run = c.in-Run.run' in
    c.in_ok-put_rows-in-Run.ensures.rows
    ∙ (ap (λ (n : ℕ). old ++ run_from (first + from) (take (n - from) (drop from run))) c.len-in-Run.ensures
    ∙ (ap (λ (l : Beside). old ++ l) (rest-run first from run)
    ∙ ap (λ (p : LentPiece). old ++ drop from (in_lent_piece p)) (sym c.in-Run.is)))
