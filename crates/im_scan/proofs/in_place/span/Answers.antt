use Rattle.std.proofs.Common.{◌≡◌, ℕ, sym, ap, subst, ◌∙◌}
use Rattle.std.specs.List.{range_with_len}
use Rattle.im_history.specs.declared.fetched.Piece.{Piece}
use Rattle.im_history.specs.Fetched.{in_piece}
use Rattle.im_scan.proofs.InPlace.{numbers_of}
use Rattle.im_scan.proofs.PieceLemmas.{numbers-run, some-inj}
use Rattle.im_scan.proofs.in_place.span.Goals as goal

pub returns-in-Run : goal.returns-in-Run
returns-in-Run c span is =
    subst (λ (s : ℕ × ℕ). numbers_of (in_piece c.args.piece.now) ≡ range_with_len s.0 s.1) (some-inj is)
    (ap (λ (p : Piece). numbers_of (in_piece p)) c.in-Run.is
    ∙ (numbers-run c.in-Run.first c.in-Run.rows ∙ ap (range_with_len c.in-Run.first) (sym c.len.ensures)))
