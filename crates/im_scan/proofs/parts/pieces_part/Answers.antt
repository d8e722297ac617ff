use Rattle.std.proofs.Common.{List, ℕ, Option, sym, ap, ◌∙◌}
use Rattle.im_history.specs.Rows.{Row}
use Rattle.im_group.specs.Partials.{partial}
use Rattle.im_scan.specs.inner.Pieces.{numbered_all}
use Rattle.im_scan.proofs.LeftPart.{beside-alone}
use Rattle.im_scan.proofs.PieceLemmas.{some-inj}
use Rattle.im_scan.proofs.parts.pieces_part.Goals as goal

pub returns : goal.returns
returns c part is =
    let bound = c.args.asking.now in
    let rows = c.args.beside.rows.now in
    let lie = c.requires.lie c.in-Some.lying c.in-Some.is in
    sym (some-inj is)
    ∙ (c.in_ok-part.ensures
    ∙ (ap (λ (l : List (ℕ × Option Row)). partial bound (numbered_all l)) lie.1
    ∙ ap (partial bound) (beside-alone c.args.first c.args.count rows c.if-not-are_between.ensures)))
