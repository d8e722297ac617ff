use Rattle.std.proofs.Common.{◌≡◌, ◌+◌, ◌-◌, false, get_or, min, ap, ◌∙◌, arith}
use Rattle.im_scan.proofs.NextLemmas.{none-next}
use Rattle.im_scan.proofs.WalkLemmas.{few-to, place-kept, stretch-all, stretch-begin, stretch-on, stretch-row, stretch-to}
use Rattle.im_scan.proofs.walking.take_stretch.Goals as goal

pub take_chosen-requires-clause-few : goal.take_chosen-requires-clause-few
take_chosen-requires-clause-few c =
    let bound = c.args.asking.now in
    let content = c.args.kept.now.unit.now in
    let places = c.args.kept.now.places in
    let first = c.first-first.result in
    let there = stretch-on bound content places first c.args.from c.first-first.ensures c.requires.kept c.args.part.now c.loop-place.part c.loop-place.at
    c.in-Some.place c.in-Some.ensures.0 c.in-Some.ensures.3 c.loop-place.invariant.stretch in
    few-to bound c.loop-place.part (first + c.in-Some.place)
    (stretch-to bound content places first c.args.from c.args.part.now c.loop-place.part c.in-Some.place there c.requires.few)
    (omega (arith, c.in-Some.ensures.1, c.min-past.ensures, c.ranges.end))

pub take_chosen-requires-clause-kept : goal.take_chosen-requires-clause-kept
take_chosen-requires-clause-kept c =
    let content = c.args.kept.now.unit.now in
    let places = c.args.kept.now.places in
    let first = c.first-first.result in
    let there : first + c.in-Some.place - content.first ≡ c.in-Some.place = omega (arith, c.first-first.ensures) in
    place-kept c.args.asking.now.filter content places (first + c.in-Some.place) c.requires.kept (omega (arith, c.first-first.ensures))
    ∙ (ap (λ n. get_or places n false) there ∙ c.in-Some.ensures.2)

pub loop-place-init : goal.loop-place-init
loop-place-init c =
    let begins = c.requires.begins in
    record {
      stretch = stretch-begin c.args.asking.now c.args.kept.now.unit.now c.args.kept.now.places c.first-first.result c.args.from c.args.part.now
          (omega (arith, c.first-first.ensures, begins));
      within = let order = c.requires.order in omega (arith, c.first-first.ensures, begins, order);
    }

pub loop-place-preserved : goal.loop-place-preserved
loop-place-preserved c =
    let bound = c.args.asking.now in
    let content = c.args.kept.now.unit.now in
    let places = c.args.kept.now.places in
    let first = c.first-first.result in
    let there = stretch-on bound content places first c.args.from c.first-first.ensures c.requires.kept c.args.part.now c.loop-place.part c.loop-place.at
    c.in-Some.place c.in-Some.ensures.0 c.in-Some.ensures.3 c.loop-place.invariant.stretch in
    record {
      stretch = stretch-row bound content places first c.args.from c.args.part.now c.loop-place.part c.take_chosen.new.part c.in-Some.place there
          c.in_ok-take_chosen.ensures;
      within = omega (arith, c.in-Some.ensures.1, c.min-past.ensures);
    }

pub returns : goal.returns
returns c =
    let first = c.first-first.result in
    stretch-all c.args.asking.now c.args.kept.now.unit.now c.args.kept.now.places first c.args.from c.first-first.ensures c.requires.kept c.args.part.now
    c.loop-place.part c.loop-place.at c.min-past.result c.args.end
    (c.min-past.ensures ∙ ap (λ n. min n (c.args.end - first)) c.len.ensures.len) c.loop-place.invariant.within
    (none-next c.args.kept.now.places c.loop-place.at c.min-past.result c.next_chosen.result c.next_chosen.ensures c.in_default.not-Some)
    c.loop-place.invariant.stretch
