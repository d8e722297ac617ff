use Rattle.std.proofs.Common.{◌≡◌, ℕ, List, slice_index_or, take, subst, arith}
use Rattle.std.proofs.lemmas.Option.{slice_get-get_or}
use Rattle.std.proofs.lemmas.List.{take_all}
use Rattle.im_history.specs.Fetched.{each_at}
use Rattle.im_history.specs.Rows.{Row}
use Rattle.im_scan.specs.inner.Pieces.{numbered_all}
use Rattle.im_scan.specs.inner.Steps.{GoesOnBy}
use Rattle.im_scan.proofs.NextLemmas.{none-next}
use Rattle.im_scan.proofs.PieceLemmas.{each-more, each-passes, few-each}
use Rattle.im_scan.proofs.in_place.hand_scattered.Goals as goal

pub take_chosen-requires-clause-few : goal.take_chosen-requires-clause-few
take_chosen-requires-clause-few c =
    let bound = c.args.asking.now in
    let rids = c.args.rids.now in
    let rows = c.args.rows.now in
    let old = c.args.part.now in
    let now = c.loop-place.part in
    let passed = each-passes bound rids c.loop-place.at c.in-Some.place rows c.args.mask.now old now c.requires.long c.requires.mask c.in-Some.ensures.0
    (omega (arith, c.in-Some.ensures.1, c.len.ensures)) c.in-Some.ensures.3 c.loop-place.invariant.goes in
    few-each bound rids c.in-Some.place rows old now c.requires.long c.requires.few (omega (arith, c.in-Some.ensures.1, c.len.ensures)) passed

pub loop-place-preserved : goal.loop-place-preserved
loop-place-preserved c =
    let bound = c.args.asking.now in
    let rids = c.args.rids.now in
    let rows = c.args.rows.now in
    let old = c.args.part.now in
    let now = c.loop-place.part in
    let passed = each-passes bound rids c.loop-place.at c.in-Some.place rows c.args.mask.now old now c.requires.long c.requires.mask c.in-Some.ensures.0
    (omega (arith, c.in-Some.ensures.1, c.len.ensures)) c.in-Some.ensures.3 c.loop-place.invariant.goes in
    record {
      goes =
          each-more bound rids c.in-Some.place (slice_index_or rids c.in-Some.place 0) rows old now c.take_chosen.new.part c.requires.long
          (slice_get-get_or rids c.in-Some.place 0 (omega (arith, c.in-Some.ensures.1, c.len.ensures, c.requires.long))) passed c.in_ok-take_chosen.ensures;
      within = omega (arith, c.in-Some.ensures.1, c.len.ensures);
    }

pub returns : goal.returns
returns c =
    let bound = c.args.asking.now in
    let rids = c.args.rids.now in
    let rows = c.args.rows.now in
    let old = c.args.part.now in
    let now = c.loop-place.part in
    let clear = none-next c.args.mask.now c.loop-place.at c.len.result c.next_chosen.result c.next_chosen.ensures c.in_default.not-Some in
    let within = c.loop-place.invariant.within in
    let passed = each-passes bound rids c.loop-place.at c.len.result rows c.args.mask.now old now c.requires.long c.requires.mask
    (omega (arith, within, c.len.ensures)) (omega (arith, c.len.ensures)) clear c.loop-place.invariant.goes in
    let whole : take c.len.result rows ≡ rows = take_all c.len.result rows (omega (arith, c.len.ensures)) in
    let all : take c.len.result rids ≡ rids = take_all c.len.result rids (omega (arith, c.len.ensures, c.requires.long)) in
    subst (λ (l : List Row). GoesOnBy bound old (numbered_all (each_at rids l)) now) whole
    (subst (λ (l : List ℕ). GoesOnBy bound old (numbered_all (each_at l (take c.len.result rows))) now) all passed)
