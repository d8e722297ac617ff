use Rattle.std.proofs.Common.{◌++◌, All, List, ℕ, Option, ap, sym, subst, take, ◌∙◌}
use Rattle.std.proofs.lemmas.List.{take_all}
use Rattle.std.proofs.lemmas.List.Elements.{All-push}
use Rattle.std.specs.List.{flat_map}
use Rattle.im_history.specs.Rows.{Row}
use Rattle.im_history.proofs.FetchedLaws.{in_pieces-widened, piece_widened}
use Rattle.im_scan.specs.inner.LentPieces.{HasLentNumbers, in_lent_piece, in_lent_pieces}
use Rattle.im_scan.proofs.PieceLemmas.{pieces-more, pieces-push}
use Rattle.im_scan.proofs.pieces.lent_pieces.Goals as goal

pub loop-piece-preserved : goal.loop-piece-preserved
loop-piece-preserved c =
    let defaults = c.args.lying.defaults.now in
    let pieces = c.args.lying.pieces.now in
    let i = c.loop-piece.piece-index in
    let old = c.loop-piece.pieces.items in
    let lent = c.lent_piece.result in
    record {
      rows = ap in_lent_pieces c.in_ok-push.ensures.items
          ∙ (pieces-push in_lent_piece old lent
          ∙ (ap (λ (l : List (ℕ × Option Row)). l ++ in_lent_piece lent) c.loop-piece.invariant.rows
          ∙ (ap (λ (l : List (ℕ × Option Row)). flat_map (piece_widened defaults) (take i pieces) ++ l) c.lent_piece.ensures.rows
          ∙ sym (pieces-more (piece_widened defaults) pieces i c.piece-item.result c.loop-piece-test.true c.piece-item.is))));
      numbers = subst (All HasLentNumbers) (sym c.in_ok-push.ensures.items)
          (All-push HasLentNumbers old lent c.loop-piece.invariant.numbers c.lent_piece.ensures.numbers);
    }

pub returns-clause-rows : goal.returns-clause-rows
returns-clause-rows c =
    let defaults = c.args.lying.defaults.now in
    let pieces = c.args.lying.pieces.now in
    c.loop-piece.invariant.rows
    ∙ (ap (flat_map (piece_widened defaults)) (take_all c.loop-piece.piece-index pieces c.loop-piece-test.false)
    ∙ sym (in_pieces-widened defaults pieces))
