use Rattle.std.proofs.Common.{◌≡◌, ◌+◌, ◌^◌, ◌≤◌, ◌++◌, [], ◌∷◌, All, length, subst, sym, ap, ◌∙◌}
use Rattle.std.proofs.lemmas.List.{length-append}
use Rattle.std.proofs.lemmas.List.Elements.{All-push}
use Rattle.im_history.specs.declared.fetched.Piece.TheVariants.{Run}
use Rattle.im_history.specs.Fetched.{HasNumbers, in_pieces, run_from}
use Rattle.im_history.proofs.FetchedLaws.{in_pieces-push, length-run_from}
use Rattle.im_history.proofs.fetched.Fetched.push_run.Goals as goal

pub invariant_of-self-2 : goal.invariant_of-self-2
invariant_of-self-2 c =
    let old = c.self.inside.pieces.items in
    let run = Run c.args.first c.args.rows in
    let is : c.push.new.self.items ≡ old ++ run ∷ [] = c.in_ok-push.ensures.items in
    let numbers : c.args.first + length c.args.rows ≤ 2 ^ 63 = c.requires in
    let more : length (in_pieces (old ++ run ∷ [])) ≡ length (in_pieces old) + length c.args.rows =
    ap length (in_pieces-push old run) ∙ length-append (in_pieces old) (run_from c.args.first c.args.rows)
    ∙ ap (λ n. length (in_pieces old) + n) (length-run_from c.args.first c.args.rows) in (
      subst (All HasNumbers) (sym is) (All-push HasNumbers old run c.self.invariant.0 numbers),
      c.in_ok-len.ensures ∙ ap (λ n. c.self.inside.len + n) c.len.ensures ∙ ap (λ n. n + length c.args.rows) c.self.invariant.1 ∙ sym more ∙ ap (λ pieces. length (in_pieces pieces)) (sym is),
    )
