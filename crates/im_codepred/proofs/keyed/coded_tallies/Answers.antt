use Rattle.std.proofs.Common.{◌∙◌}
use Rattle.im_codepred.proofs.PairLemmas.{founds-inside, founds-told}
use Rattle.im_codepred.proofs.keyed.coded_tallies.Goals as goal

pub tallies_found-requires-clause-inside : goal.tallies_found-requires-clause-inside
tallies_found-requires-clause-inside c =
    founds-inside c.args.ends c.args.dict.now c.values-values.result.now c.args.mask.now c.args.keys.now.codes c.args.codes.now.codes c.deref.result.now
    c.args.most c.values-values.ensures.values c.len.ensures.dictionary c.requires.codes (c.deref.ensures.value ∙ c.in_ok-founds.ensures)

pub returns : goal.returns
returns c =
    founds-told c.args.ends c.args.dict.now c.values-values.result.now c.args.mask.now c.args.keys.now.codes c.args.codes.now.codes c.deref.result.now
    c.in_ok-tallies_found.field-0.items c.args.most c.values-values.ensures.values c.len.ensures.dictionary c.requires.codes
    (c.deref.ensures.value ∙ c.in_ok-founds.ensures) c.in_ok-tallies_found.ensures
