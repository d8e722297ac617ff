use Rattle.std.proofs.Common.{◌∙◌, ◌<◌, List, false, get_or, slice_index_or, map, ap, sym, length, subst, arith}
use Rattle.std.proofs.lemmas.List.{get_or-map, length-map, take_all}
use Rattle.im_codepred.specs.declared.tally.Tally.{Tally}
use Rattle.im_codepred.specs.Tallies.{IsTallyFor}
use Rattle.im_group.specs.declared.asked.Asked.{Asked}
use Rattle.im_group.specs.Sums.{sums_of}
use Rattle.im_scan.specs.inner.Summed.{wants_ends}
use Rattle.im_scan.proofs.ByCodeLemmas.{come-at, sums-more}
use Rattle.im_scan.proofs.SummedLemmas.{some-inj}
use Rattle.im_scan.proofs.by_code.sums_at.Goals as goal

pub loop-i-preserved : goal.loop-i-preserved
loop-i-preserved c of come =
    let none : Asked = record { column = 0; least = false; greatest = false } in
    let items = map (λ tallies. tallies.items) c.args.all.now in
    let inside : c.loop-i.i < length c.args.all.now = omega (arith, c.requires.size, c.loop-i-test.true) in
    let long = length-map c.args.all.now (λ tallies. tallies.items) in
    let here = get_or-map (λ tallies. tallies.items) c.args.all.now c.loop-i.i c.index-all-i.result c.as_slice.result.now inside
    ∙ (ap (λ v. v.items) (sym c.index-all-i.is) ∙ sym c.as_slice.ensures.value) in
    sums-more of c.args.asked.now c.loop-i.i none c.loop-i.sums.items c.push.new.self.items c.in-Some.found c.loop-i-test.true (c.loop-i.invariant of come)
    (c.in_ok-found.ensures c.in-Some.found c.in-Some.is (of (get_or c.args.asked.now c.loop-i.i none)) (λ d.
    subst (λ (ts : List Tally). IsTallyFor (wants_ends (get_or c.args.asked.now c.loop-i.i none)) (of (get_or c.args.asked.now c.loop-i.i none)) (slice_index_or ts c.args.place d)) here
    (come-at of c.args.place c.args.asked.now items c.loop-i.i none c.as_slice.result.now d come c.loop-i-test.true (omega (arith, inside, long))))) c.in_ok-push-in-Some.ensures.items

pub returns : goal.returns
returns c found is of come =
    ap (λ v. v.items) (sym (some-inj is))
    ∙ (c.loop-i.invariant of come ∙ ap (map (λ a. sums_of a (of a))) (take_all c.loop-i.i c.args.asked.now c.loop-i-test.false))
