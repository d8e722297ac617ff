use Rattle.std.proofs.Common.{[], ◌<◌, length, map, ◌∙◌, arith}
use Rattle.std.specs.Arc.{arc_value}
use Rattle.std.proofs.lemmas.List.{length-map, get_or_read}
use Rattle.im_eval.specs.Holds.{truth_of}
use Rattle.im_codepred.specs.declared.asked.Wanted.TheVariants.{Held}
use Rattle.im_codepred.specs.Asked.{is_met, met}
use Rattle.im_codepred.proofs.SpanTallyLemmas.{if-some, tally-of-rows}
use Rattle.im_codepred.proofs.in_range.tally_where.Goals as goal

pub returns : goal.returns
returns c =
    let columns = map arc_value c.args.columns.now in
    let inside : c.args.column < length columns = omega (arith, length-map c.args.columns.now arc_value, c.requires.inside) in
    if-some c.met_tally.result _ _
    (λ tally. tally-of-rows (λ row. met Held (truth_of c.args.filter.now row)) (is_met c.in_ok-wanted.wanted c.in_ok-wanted.asked) columns c.args.column c.args.n
    c.column_of.result.now tally inside c.requires.long (λ row. c.in_ok-test.ensures row ∙ c.in_ok-wanted.ensures row)
    (get_or_read columns c.args.column c.column_of.result.now inside c.column_of.ensures []))
    c.met_tally.ensures
