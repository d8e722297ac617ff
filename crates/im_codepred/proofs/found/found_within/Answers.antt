use Rattle.std.proofs.Common.{◌≡◌, ◌-◌, pos, ◌+ℤ◌, to_z, of_z, ap, sym, subst, ◌∙◌, arith}
use Rattle.std.proofs.lemmas.Int.{ints, to_z-of_z}
use mir.Syntax.{w64, w128}
use Rattle.im_lanes.specs.Masks.{is_within}
use Rattle.im_codepred.specs.Tallies.{IsWithin}
use Rattle.im_codepred.specs.inner.Tallying.{FoundOf, number_at, times_of}
use Rattle.im_codepred.proofs.SpanTallyLemmas.{count-passing, found-within}
use Rattle.im_codepred.proofs.found.found_within.Goals as goal

pub invariant_of-result : goal.invariant_of-result
invariant_of-result c =
    let span = c.args.span in
    let n = c.codes_within-within.result.count in
    let above = c.codes_within-within.result.sum in
    let found = found-within c.args.numbers.now c.args.first span.low span.end c.args.bits.now.codes n above c.requires.first (omega (arith, ints)) c.requires.span.some
    c.requires.span.order c.requires.span.most c.requires.there c.codes_within-within.ensures.within in
    let sum : to_z w128 (of_z w128 c.total.result) ≡ (times_of n (number_at c.args.numbers.now span.low) +ℤ pos above) =
    to_z-of_z w128 c.total.result (record { sfits = c.total.type_inv })
    ∙ (c.total.ensures ∙ ap (λ z. times_of n z +ℤ pos above) (to_z-of_z w64 c.at.result (record { sfits = c.at.type_inv }) ∙ c.at.ensures)) in
    subst (λ z. IsWithin n z) (sym sum) found.within

pub returns-clause-found : goal.returns-clause-found
returns-clause-found c =
    let span = c.args.span in
    let n = c.codes_within-within.result.count in
    let above = c.codes_within-within.result.sum in
    let found = found-within c.args.numbers.now c.args.first span.low span.end c.args.bits.now.codes n above c.requires.first (omega (arith, ints)) c.requires.span.some
    c.requires.span.order c.requires.span.most c.requires.there c.codes_within-within.ensures.within in
    let sum : to_z w128 (of_z w128 c.total.result) ≡ (times_of n (number_at c.args.numbers.now span.low) +ℤ pos above) =
    to_z-of_z w128 c.total.result (record { sfits = c.total.type_inv })
    ∙ (c.total.ensures ∙ ap (λ z. times_of n z +ℤ pos above) (to_z-of_z w64 c.at.result (record { sfits = c.at.type_inv }) ∙ c.at.ensures)) in
    ap (λ z. let f : FoundOf = record { values = n; sum = z; least = span.low; greatest = span.end - 1 } in f) sum ∙ found.found

pub returns-clause-all : goal.returns-clause-all
returns-clause-all c =
    c.codes_within-within.ensures.within.count ∙ count-passing (is_within c.args.span.low c.args.span.end) c.args.bits.now.codes
