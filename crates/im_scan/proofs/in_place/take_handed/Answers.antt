use Rattle.std.proofs.Common.{◌≡◌, List, take, subst, arith}
use Rattle.std.proofs.lemmas.List.{take_all}
use Rattle.im_history.specs.Fetched.{run_from}
use Rattle.im_history.specs.Rows.{Row}
use Rattle.im_scan.specs.inner.Pieces.{numbered_all}
use Rattle.im_scan.specs.inner.Steps.{GoesOnBy}
use Rattle.im_scan.proofs.NextLemmas.{none-next}
use Rattle.im_scan.proofs.PieceLemmas.{few-run, run-more, run-passes}
use Rattle.im_scan.proofs.in_place.take_handed.Goals as goal

pub take_chosen-requires-clause-few : goal.take_chosen-requires-clause-few
take_chosen-requires-clause-few c =
    let bound = c.args.asking.now in
    let first = c.args.first in
    let rows = c.args.rows.now in
    let old = c.args.part.now in
    let now = c.loop-place.part in
    let passed = run-passes bound first c.loop-place.at c.in-Some.place rows c.args.mask.now old now c.requires.mask c.in-Some.ensures.0
    (omega (arith, c.in-Some.ensures.1, c.len.ensures)) c.in-Some.ensures.3 c.loop-place.invariant.goes in
    few-run bound first c.in-Some.place rows old now c.requires.few (omega (arith, c.in-Some.ensures.1, c.len.ensures)) passed

pub loop-place-preserved : goal.loop-place-preserved
loop-place-preserved c =
    let bound = c.args.asking.now in
    let first = c.args.first in
    let rows = c.args.rows.now in
    let old = c.args.part.now in
    let now = c.loop-place.part in
    let passed = run-passes bound first c.loop-place.at c.in-Some.place rows c.args.mask.now old now c.requires.mask c.in-Some.ensures.0
    (omega (arith, c.in-Some.ensures.1, c.len.ensures)) c.in-Some.ensures.3 c.loop-place.invariant.goes in
    record {
      goes = run-more bound first c.in-Some.place rows old now c.take_chosen.new.part passed c.in_ok-take_chosen.ensures;
      within = omega (arith, c.in-Some.ensures.1, c.len.ensures);
    }

pub returns : goal.returns
returns c =
    let bound = c.args.asking.now in
    let first = c.args.first in
    let rows = c.args.rows.now in
    let old = c.args.part.now in
    let now = c.loop-place.part in
    let clear = none-next c.args.mask.now c.loop-place.at c.len.result c.next_chosen.result c.next_chosen.ensures c.in_default.not-Some in
    let within = c.loop-place.invariant.within in
    let passed = run-passes bound first c.loop-place.at c.len.result rows c.args.mask.now old now c.requires.mask
    (omega (arith, within, c.len.ensures)) (omega (arith, c.len.ensures)) clear c.loop-place.invariant.goes in
    let whole : take c.len.result rows ≡ rows = take_all c.len.result rows (omega (arith, c.len.ensures)) in
    subst (λ (l : List Row). GoesOnBy bound old (numbered_all (run_from first l)) now) whole passed
