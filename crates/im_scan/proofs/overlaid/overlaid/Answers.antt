use Rattle.std.proofs.Common.{◌≡◌, ◌++◌, ◌∷◌, All, List, Option, ap, subst, sym, ◌∙◌, append-nil}
use Rattle.std.proofs.lemmas.List.Elements.{All-nil}
use Rattle.im_scan.specs.declared.pieces.LentPiece.{LentPiece}
use Rattle.im_scan.specs.inner.LentPieces.{HasLentNumbers, in_lent_pieces}
use Rattle.im_history.specs.Last.{AreLast, Slot}
use Rattle.im_history.specs.Rows.{Row}
use Rattle.im_history.specs.Serving.{shown_all}
use Rattle.im_history.specs.Views.{shown}
use Rattle.im_scan.specs.inner.Beside.{Beside}
use Rattle.im_scan.specs.inner.Overlaid.{IsChangedIn, left_at, left_of}
use Rattle.im_scan.proofs.OverlaidLemmas.{IsLaid, laid-all, laid-none, laid-own, left-none, left-whole}
use Rattle.im_scan.proofs.PieceLemmas.{some-inj}
use Rattle.im_scan.proofs.ShownLemmas.{last-shown}
use Rattle.im_scan.proofs.overlaid.overlaid.Goals as goal
use Rattle.im_scan.specs.inner.Steps.{as_shown}

pub loop-rid-init : goal.loop-rid-init
loop-rid-init c =
    let fetched = c.args.fetched.now in
    let view = c.args.view.now in
    let left = c.into_iter-rid-iterator.result in
    let items = c.in_ok-pieces.ensures.items in
    record {
      laid =
          laid-none (in_lent_pieces fetched) (as_shown view) c.args.first c.args.count (shown_all view left) (in_lent_pieces c.in_ok-pieces.pieces.items ++ left_of fetched 0)
          (last-shown view c.args.first c.args.count left
          (subst (AreLast view.own view.table c.args.first c.args.count) (sym c.into_iter-rid-iterator.ensures.into_iter_gives) c.between-rid-items.ensures))
          c.requires.order c.requires.long
          (ap (λ (l : List LentPiece). in_lent_pieces l ++ left_of fetched 0) items ∙ left-whole fetched);
      numbers = subst (All HasLentNumbers) (sym items) (All-nil HasLentNumbers);
    }

pub loop-rid-preserved : goal.loop-rid-preserved
loop-rid-preserved c =
    let fetched = in_lent_pieces c.args.fetched.now in
    let view = c.args.view.now in
    let rid = c.in-Some.rid.now in
    let row = c.in-Some.row.now in
    let slot : Slot = (rid, row) in
    let left : c.loop-rid.rid-iterator ≡ slot ∷ c.next.new.self = c.in-Some.ensures.steps in
    let old = in_lent_pieces c.loop-rid.pieces.items ++ left_at c.args.fetched.now c.loop-rid.spot in
    let new = in_lent_pieces c.change.new.pieces.items ++ left_at c.args.fetched.now c.in-Some-2.next in
    record {
      laid =
          laid-own fetched (as_shown view) c.args.first rid (shown view row) (shown_all view c.next.new.self) old new
          (subst (λ (slots : List Slot). IsLaid fetched (as_shown view) c.args.first (shown_all view slots) old) left c.loop-rid.invariant.laid)
          (subst (λ (r : Option Row). IsChangedIn rid r old new) c.shown-wide.ensures (c.in_ok-next.ensures.changed c.in-Some-2.next c.in-Some-2.is));
      numbers = c.in_ok-next.ensures.numbers;
    }

pub returns-clause-laid : goal.returns-clause-laid
returns-clause-laid c pieces is =
    let lying = c.args.fetched.now in
    let fetched = in_lent_pieces lying in
    let view = c.args.view.now in
    let last = in_lent_pieces c.pass_below.new.pieces.items in
    let end = c.in_ok-end.end in
    let rows = in_lent_pieces c.loop-rid.pieces.items ++ left_at lying c.loop-rid.spot in
    let all = subst (λ (slots : List Slot). IsLaid fetched (as_shown view) c.args.first (shown_all view slots) rows) c.in-None.ensures.steps.0 c.loop-rid.invariant.laid in
    ap (λ found. in_lent_pieces found.items) (sym (some-inj is))
    ∙ (sym (append-nil last)
    ∙ (ap (λ (l : Beside). last ++ l) (sym (left-none lying end.piece end.row c.if-end-fetched.false))
    ∙ (c.in_ok-end.ensures.whole ∙ laid-all fetched (as_shown view) c.args.first rows all)))
