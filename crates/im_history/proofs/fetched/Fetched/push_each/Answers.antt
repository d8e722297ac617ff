use Rattle.std.proofs.Common.{◌≡◌, ◌+◌, ◌++◌, [], ◌∷◌, All, length, subst, sym, ap, ◌∙◌}
use Rattle.std.proofs.lemmas.List.{length-append}
use Rattle.std.proofs.lemmas.List.Elements.{All-push}
use Rattle.im_history.specs.declared.fetched.Piece.TheVariants.{Each}
use Rattle.im_history.specs.Fetched.{HasNumbers, each_at, in_pieces}
use Rattle.im_history.proofs.FetchedLaws.{in_pieces-push, length-each_at}
use Rattle.im_history.proofs.fetched.Fetched.push_each.Goals as goal

pub invariant_of-self-2 : goal.invariant_of-self-2
invariant_of-self-2 c =
    let old = c.self.inside.pieces.items in
    let each = Each c.args.rids c.args.rows in
    let is : c.push.new.self.items ≡ old ++ each ∷ [] = c.in_ok-push.ensures.items in
    let numbers : length c.args.rids.items ≡ length c.args.rows = c.requires in
    let more : length (in_pieces (old ++ each ∷ [])) ≡ length (in_pieces old) + length c.args.rows =
    ap length (in_pieces-push old each) ∙ length-append (in_pieces old) (each_at c.args.rids.items c.args.rows)
    ∙ ap (λ n. length (in_pieces old) + n) (length-each_at c.args.rids.items c.args.rows numbers) in (
      subst (All HasNumbers) (sym is) (All-push HasNumbers old each c.self.invariant.0 numbers),
      c.in_ok-len.ensures ∙ ap (λ n. c.self.inside.len + n) c.len.ensures ∙ ap (λ n. n + length c.args.rows) c.self.invariant.1 ∙ sym more ∙ ap (λ pieces. length (in_pieces pieces)) (sym is),
    )
