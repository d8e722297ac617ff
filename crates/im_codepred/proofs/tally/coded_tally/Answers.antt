use Rattle.std.proofs.Common.{List, fold, ap, ◌∙◌}
use Rattle.im_values.specs.declared.content.Content.{Content as Value}
use Rattle.im_codepred.specs.Tallies.{chosen}
use Rattle.im_codepred.specs.inner.Tallying.{taken, nothing}
use Rattle.im_codepred.proofs.TallyLemmas.{codes-tally, found-inside}
use Rattle.im_codepred.proofs.tally.coded_tally.Goals as goal

pub tally-requires-clause-inside : goal.tally-requires-clause-inside
tally-requires-clause-inside c =
    found-inside c.args.dict.now c.values-values.result.now c.args.mask.now c.args.bits.now.codes c.found_in.result c.values-values.ensures.values
    c.len.ensures.dictionary c.requires.codes (c.found_in.ensures ∙ ap (λ (d : List Value). fold (taken d) nothing (chosen c.args.mask.now c.args.bits.now.codes)) c.of-numbers.ensures)

pub returns : goal.returns
returns c =
    codes-tally c.args.dict.now c.values-values.result.now c.args.mask.now c.args.bits.now.codes c.found_in.result c.tally.result c.values-values.ensures.values
    c.len.ensures.dictionary c.requires.codes (c.found_in.ensures ∙ ap (λ (d : List Value). fold (taken d) nothing (chosen c.args.mask.now c.args.bits.now.codes)) c.of-numbers.ensures) c.tally.ensures
