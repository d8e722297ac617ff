use Rattle.std.proofs.Common.{map, sym, ◌∙◌}
use Rattle.std.proofs.lemmas.List.{length-map}
use Rattle.im_lanes.proofs.ForCallers.{words-whole, words-hold}
use Rattle.im_codepred.specs.Asked.{is_met}
use Rattle.im_codepred.specs.inner.Numbers.{passes}
use Rattle.im_codepred.proofs.RowLemmas.{map_all}
use Rattle.im_codepred.proofs.form.plain_mask.Goals as goal

pub of_words-requires-clause-whole : goal.of_words-requires-clause-whole
of_words-requires-clause-whole c =
    let p = passes c.of-probe.result in
    words-whole c.in_ok-words.words.items c.args.len (map p c.args.values.now) c.in_ok-words.ensures (length-map c.args.values.now p ∙ sym c.requires.len)

pub returns : goal.returns
returns c =
    let p = passes c.of-probe.result in
    c.of_words.ensures
    ∙ (words-hold c.in_ok-words.words.items c.args.len (map p c.args.values.now) c.in_ok-words.ensures (length-map c.args.values.now p ∙ sym c.requires.len)
    ∙ map_all p (is_met c.args.wanted c.args.asked.now) c.args.values.now c.of-probe.ensures.same)
