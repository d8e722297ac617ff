use Rattle.std.proofs.Common.{Bool, List, subst, ◌∙◌}
use Rattle.std.specs.Prelude.{IfSome}
use Rattle.im_codes.specs.Dictionary.{coded, values_at}
use Rattle.im_lanes.specs.Masks.{is_within}
use Rattle.im_codepred.specs.Asked.{is_met}
use Rattle.im_codepred.specs.Tallies.{IsTallyOfAll}
use Rattle.im_codepred.proofs.SpanLemmas.{chosen-codes}
use Rattle.im_codepred.proofs.in_range.coded_tally.Goals as goal

pub returns : goal.returns
returns c =
    let codes = c.args.bits.now.codes in
    let dict = c.args.dict.now in
    let span = c.in_ok-span.span in
    subst (λ (m : List Bool). IfSome c.span_tally.result (IsTallyOfAll m (values_at (coded dict) codes)))
    (chosen-codes (is_within span.low span.end) (is_met c.args.wanted c.args.asked.now) dict codes
    (λ code inside. c.in_ok-span.ensures.same code ∙ c.in_ok-spans.ensures code inside) c.requires.codes) c.span_tally.ensures
