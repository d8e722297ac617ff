use Rattle.im_codepred.proofs.TallyLemmas.{codes-tally, found-inside}
use Rattle.im_codepred.proofs.tally.run_tally.Goals as goal

pub tally-requires-clause-inside : goal.tally-requires-clause-inside
tally-requires-clause-inside c =
    found-inside c.args.dict.now c.values-values.result.now c.args.mask.now c.args.runs.now c.found_among.result c.values-values.ensures.values
    c.len.ensures.dictionary c.requires.codes c.found_among.ensures

pub returns : goal.returns
returns c =
    codes-tally c.args.dict.now c.values-values.result.now c.args.mask.now c.args.runs.now c.found_among.result c.tally.result c.values-values.ensures.values
    c.len.ensures.dictionary c.requires.codes c.found_among.ensures c.tally.ensures
