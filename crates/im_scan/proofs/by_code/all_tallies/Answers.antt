use Rattle.std.proofs.Common.{◌∙◌, List, [], ◌∷◌, ◌+◌, map, take, ap, sym, subst}
use Rattle.std.proofs.lemmas.List.{map-append, take_all}
use Rattle.im_values.specs.Sizes.{dictionary}
use Rattle.im_codes.specs.Dictionary.{coded}
use Rattle.im_codepred.specs.declared.tally.Tally.{Tally}
use Rattle.im_group.specs.declared.asked.Asked.{Asked}
use Rattle.im_unit.specs.Holding.{present_rows}
use Rattle.im_scan.specs.inner.ByCode.{AreAllTallies}
use Rattle.im_scan.proofs.ByCodeLemmas.{all-more}
use Rattle.im_scan.proofs.SummedLemmas.{some-inj}
use Rattle.im_scan.proofs.by_code.all_tallies.Goals as goal

pub loop-one-preserved : goal.loop-one-preserved
loop-one-preserved c =
    let values = coded (dictionary c.args.keys.now) in
    let held = present_rows c.args.unit.now.rows in
    let made = ap (map (λ tallies. tallies.items)) c.in_ok-push-in-Some.ensures.items
    ∙ map-append (λ tallies. tallies.items) c.loop-one.all.items (c.in-Some.tallies ∷ []) in
    subst (λ (l : List (List Tally)). AreAllTallies c.args.spots.now c.args.keys.now held values (take (c.loop-one.one-index + 1) c.args.asked.now) l)
    (sym made)
    (all-more c.args.spots.now c.args.keys.now held values c.args.asked.now c.loop-one.one-index _ (map (λ tallies. tallies.items) c.loop-one.all.items)
    c.in-Some.tallies.items c.loop-one-test.true c.loop-one.invariant (c.in_ok-tallies.ensures c.in-Some.tallies c.in-Some.is))

pub returns : goal.returns
returns c found is =
    subst (λ (qs : List Asked). AreAllTallies c.args.spots.now c.args.keys.now (present_rows c.args.unit.now.rows) (coded (dictionary c.args.keys.now)) qs
    (map (λ tallies. tallies.items) found.items))
    (take_all c.loop-one.one-index c.args.asked.now c.loop-one-test.false)
    (subst (λ v. AreAllTallies c.args.spots.now c.args.keys.now (present_rows c.args.unit.now.rows) (coded (dictionary c.args.keys.now))
    (take c.loop-one.one-index c.args.asked.now) (map (λ tallies. tallies.items) v.items)) (some-inj is) c.loop-one.invariant)
