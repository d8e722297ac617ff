use Rattle.std.proofs.Common.{◌≡◌, ◌+◌, subst, ◌∙◌}
use Rattle.im_scan.specs.inner.Beside.{AreBeside, Beside}
use Rattle.im_scan.specs.inner.Steps.{as_shown}
use Rattle.im_scan.proofs.BesideLemmas.{between-rising}
use Rattle.im_scan.proofs.PieceLemmas.{some-inj}
use Rattle.im_scan.proofs.beside.beside.Goals as goal

pub merged-requires-clause-rising : goal.merged-requires-clause-rising
merged-requires-clause-rising c = between-rising c.args.first (c.args.first + c.args.count) c.as_slice-lying.result.now c.if-not-are_between.ensures

pub returns : goal.returns
returns c rows is =
    let lying = c.as_slice-lying.result.now in
    let view = as_shown c.args.view.now in
    let first = c.args.first in
    let count = c.args.count in
    let same : lying ≡ c.args.fetched.now = c.as_slice-lying.ensures.value ∙ c.in_ok-read.ensures in
    subst (λ found. AreBeside c.args.fetched.now view first count found.items) (some-inj is)
    (subst (λ (l : Beside). AreBeside l view first count c.in_ok-rows.rows.items) same c.in_ok-rows.ensures)
