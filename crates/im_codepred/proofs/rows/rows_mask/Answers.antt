use Rattle.std.proofs.Common.{map, sym, ◌∙◌}
use Rattle.std.proofs.lemmas.List.{length-map}
use Rattle.im_syntax.specs.BoundFits.{value_at}
use Rattle.im_lanes.proofs.ForCallers.{words-whole, words-hold}
use Rattle.im_codepred.specs.Asked.{is_met}
use Rattle.im_codepred.specs.inner.Numbers.{passes_in}
use Rattle.im_codepred.proofs.RowLemmas.{map_all}
use Rattle.im_codepred.proofs.rows.rows_mask.Goals as goal

pub of_words-requires-clause-whole : goal.of_words-requires-clause-whole
of_words-requires-clause-whole c =
    let p = passes_in c.of-probe.result c.args.column in
    words-whole c.in_ok-words.words.items c.len.result (map p c.args.rows.now) c.in_ok-words.ensures (length-map c.args.rows.now p ∙ sym c.len.ensures)

pub returns : goal.returns
returns c =
    let p = passes_in c.of-probe.result c.args.column in
    c.of_words.ensures
    ∙ (words-hold c.in_ok-words.words.items c.len.result (map p c.args.rows.now) c.in_ok-words.ensures (length-map c.args.rows.now p ∙ sym c.len.ensures)
    ∙ map_all p (λ row. is_met c.args.wanted c.args.asked.now (value_at row c.args.column)) c.args.rows.now (λ row. c.of-probe.ensures.same (value_at row c.args.column)))
