use Rattle.std.proofs.Common.{List, ℕ, length, ap, arith, sym, subst, ◌∙◌}
use Rattle.std.proofs.lemmas.List.{length-map}
use Rattle.im_values.specs.Widened.{widened}
use Rattle.im_history.specs.declared.fetched.Piece.{Piece}
use Rattle.im_history.specs.Fetched.{HasNumbers, all_widened, each_at, in_piece, run_from}
use Rattle.im_history.proofs.FetchedLaws.{each_at-widened, run_from-widened}
use Rattle.im_scan.proofs.pieces.lent_piece.Goals as goal

pub returns-in-Run-clause-rows : goal.returns-in-Run-clause-rows
returns-in-Run-clause-rows c =
    let defaults = c.args.defaults.now in
    ap (run_from c.in-Run.first) c.of.ensures
    ∙ (run_from-widened defaults c.in-Run.first c.in-Run.rows ∙ ap (λ (p : Piece). all_widened defaults (in_piece p)) (sym c.in-Run.is))

pub returns-in-Run-clause-numbers : goal.returns-in-Run-clause-numbers
returns-in-Run-clause-numbers c =
    let long = ap length c.of.ensures ∙ length-map c.in-Run.rows (widened c.args.defaults.now) in
    let fit = subst HasNumbers c.in-Run.is c.requires in
    omega (arith, long, fit)

pub returns-in-Each-clause-rows : goal.returns-in-Each-clause-rows
returns-in-Each-clause-rows c =
    let defaults = c.args.defaults.now in
    ap (each_at c.as_slice.result.now) c.of-in-Each.ensures
    ∙ (each_at-widened defaults c.as_slice.result.now c.in-Each.rows
    ∙ (ap (λ (rids : List ℕ). all_widened defaults (each_at rids c.in-Each.rows)) c.as_slice.ensures.value
    ∙ ap (λ (p : Piece). all_widened defaults (in_piece p)) (sym c.in-Each.is)))

pub returns-in-Each-clause-numbers : goal.returns-in-Each-clause-numbers
returns-in-Each-clause-numbers c =
    ap length c.as_slice.ensures.value
    ∙ (subst HasNumbers c.in-Each.is c.requires
    ∙ sym (ap length c.of-in-Each.ensures ∙ length-map c.in-Each.rows (widened c.args.defaults.now)))
