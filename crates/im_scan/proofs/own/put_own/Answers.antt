use Rattle.std.proofs.Common.{◌≡◌, ◌∷◌, List, Option, sym, ap, subst}
use Rattle.im_history.specs.Last.{AreLast, Slot}
use Rattle.im_history.specs.Rows.{Row}
use Rattle.im_history.specs.Views.{shown}
use Rattle.im_scan.proofs.BesideLemmas.{pushed-again}
use Rattle.im_scan.proofs.ShownLemmas.{ArePutTo, put-all, put-more, put-none}
use Rattle.im_scan.proofs.own.put_own.Goals as goal

pub loop-rid-init : goal.loop-rid-init
loop-rid-init c =
    let view = c.args.view.now in
    put-none view c.args.first c.args.count c.args.rows.now.items c.into_iter-rid-iterator.result
    (subst (AreLast view.own view.table c.args.first c.args.count) (sym c.into_iter-rid-iterator.ensures.into_iter_gives) c.between-rid-items.ensures)

pub loop-rid-preserved : goal.loop-rid-preserved
loop-rid-preserved c =
    let view = c.args.view.now in
    let rid = c.in-Some.rid.now in
    let row = c.in-Some.row.now in
    let old = c.args.rows.now.items in
    let slot : Slot = (rid, row) in
    let left : c.loop-rid.rid-iterator ≡ slot ∷ c.next.new.self = c.in-Some.ensures.steps in
    put-more view c.args.first c.args.count rid row old c.next.new.self c.loop-rid.rows.items c.push.new.self.items
    (subst (λ (slots : List Slot). ArePutTo view c.args.first c.args.count old slots c.loop-rid.rows.items) left c.loop-rid.invariant)
    (pushed-again c.loop-rid.rows.items c.push.new.self.items (rid, shown view row) (rid, c.shown.result) c.in_ok-push.ensures.items
    (ap (λ (r : Option Row). (rid, r)) c.shown.ensures))

pub returns : goal.returns
returns c =
    let view = c.args.view.now in
    let old = c.args.rows.now.items in
    put-all view c.args.first c.args.count old c.loop-rid.rows.items
    (subst (λ (slots : List Slot). ArePutTo view c.args.first c.args.count old slots c.loop-rid.rows.items) c.in-None.ensures.steps.0 c.loop-rid.invariant)
