use Rattle.std.proofs.Common.{List, fold, map, ap, ◌∙◌}
use Rattle.im_values.specs.declared.content.Content.{Content as Value}
use Rattle.im_lanes.specs.Masks.{is_within}
use Rattle.im_codepred.specs.Tallies.{chosen}
use Rattle.im_codepred.specs.inner.Tallying.{nothing, taken}
use Rattle.im_codepred.proofs.TallyLemmas.{codes-tally, found-inside}
use Rattle.im_codepred.proofs.in_range.span_tally.Goals as goal

pub tally-requires-clause-inside : goal.tally-requires-clause-inside
tally-requires-clause-inside c =
    let codes = c.args.bits.now.codes in
    let mask = map (is_within c.args.span.low c.args.span.end) codes in
    found-inside c.args.dict.now c.values-values.result.now mask codes c.found_within.result c.values-values.ensures.values c.len.ensures.dictionary c.requires.codes
    (c.found_within.ensures.found ∙ ap (λ (d : List Value). fold (taken d) nothing (chosen mask codes)) c.of-numbers.ensures)

pub returns : goal.returns
returns c =
    let codes = c.args.bits.now.codes in
    let mask = map (is_within c.args.span.low c.args.span.end) codes in
    record {
      tally = codes-tally c.args.dict.now c.values-values.result.now mask codes c.found_within.result c.tally.result c.values-values.ensures.values
          c.len.ensures.dictionary c.requires.codes
          (c.found_within.ensures.found ∙ ap (λ (d : List Value). fold (taken d) nothing (chosen mask codes)) c.of-numbers.ensures) c.tally.ensures;
      values = c.tally.ensures.values ∙ c.found_within.ensures.all;
    }
