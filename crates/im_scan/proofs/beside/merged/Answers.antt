use Rattle.std.proofs.Common.{◌≡◌, ◌++◌, ◌∷◌, [], List, Option, ap, subst, sym, ◌∙◌}
use Rattle.im_history.specs.Last.{AreLast, Slot}
use Rattle.im_history.specs.Rows.{Row}
use Rattle.im_history.specs.Serving.{shown_all}
use Rattle.im_history.specs.Views.{shown}
use Rattle.im_scan.specs.inner.Beside.{Beside}
use Rattle.im_scan.proofs.BesideLemmas.{IsMerged, merged-none, merged-passed, merged-own, merged-all}
use Rattle.im_scan.proofs.ShownLemmas.{last-shown}
use Rattle.im_scan.proofs.beside.merged.Goals as goal
use Rattle.im_scan.specs.inner.Steps.{as_shown}

pub loop-rid-init : goal.loop-rid-init
loop-rid-init c =
    let fetched = c.args.fetched.now in
    let view = c.args.view.now in
    let left = c.into_iter-rid-iterator.result in
    subst (λ (rows : Beside). IsMerged fetched (as_shown view) c.args.first c.args.count (shown_all view left) 0 rows) (sym c.in_ok-rows.ensures.items)
    (merged-none fetched (as_shown view) c.args.first c.args.count (shown_all view left)
    (last-shown view c.args.first c.args.count left
    (subst (AreLast view.own view.table c.args.first c.args.count) (sym c.into_iter-rid-iterator.ensures.into_iter_gives) c.between-rid-items.ensures)))

pub loop-rid-preserved : goal.loop-rid-preserved
loop-rid-preserved c =
    let fetched = c.args.fetched.now in
    let view = c.args.view.now in
    let first = c.args.first in
    let count = c.args.count in
    let rid = c.in-Some.rid.now in
    let row = c.in-Some.row.now in
    let slot : Slot = (rid, row) in
    let left : c.loop-rid.rid-iterator ≡ slot ∷ c.next.new.self = c.in-Some.ensures.steps in
    let old = c.loop-rid.rows.items in
    let put = c.put_below.new.rows.items in
    let next = shown_all view c.next.new.self in
    let before = subst (λ (slots : List Slot). IsMerged fetched (as_shown view) first count (shown_all view slots) c.loop-rid.at old) left c.loop-rid.invariant in
    let passed = merged-passed fetched (as_shown view) first count ((rid, shown view row) ∷ next) c.loop-rid.at c.in_ok-at.at rid old put before c.in_ok-at.ensures in
    let pushed : c.push.new.self.items ≡ put ++ (rid, shown view row) ∷ [] =
    c.in_ok-push.ensures.items ∙ ap (λ (r : Option Row). put ++ (rid, r) ∷ []) c.shown.ensures in
    subst (λ (rows : Beside). IsMerged fetched (as_shown view) first count next c.past_equal-at.result rows) (sym pushed)
    (merged-own fetched (as_shown view) first count c.requires.rising rid c.in_ok-at.at c.past_equal-at.result (shown view row) next put passed
    c.in_ok-at.ensures.past c.past_equal-at.ensures)

pub returns : goal.returns
returns c =
    let fetched = c.args.fetched.now in
    let view = c.args.view.now in
    let rows = c.loop-rid.rows.items in
    let all =
    subst (λ (slots : List Slot). IsMerged fetched (as_shown view) c.args.first c.args.count (shown_all view slots) c.loop-rid.at rows)
    c.in-None.ensures.steps.0 c.loop-rid.invariant in
    merged-all fetched (as_shown view) c.args.first c.args.count c.requires.rising c.loop-rid.at c.in_ok-put_below.field-0 rows
    c.put_below-2.new.rows.items all c.in_ok-put_below.ensures
