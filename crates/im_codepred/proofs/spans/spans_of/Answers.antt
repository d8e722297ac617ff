use Rattle.std.proofs.Common.{ap, sym, ◌∙◌, get_or}
use Rattle.im_values.specs.declared.content.Content.TheVariants.{Null}
use Rattle.im_codes.specs.Dictionary.{coded}
use Rattle.im_codepred.specs.Asked.{is_met}
use Rattle.im_codepred.specs.inner.Spans.{holds_at}
use Rattle.im_codepred.proofs.SpanLemmas.{met-comparison, met-between}
use Rattle.im_codepred.proofs.spans.spans_of.Goals as goal

pub returns-in-Compare : goal.returns-in-Compare
returns-in-Compare c = λ code inside.
    let v = get_or (coded c.args.dict.now) code Null in
    c.compare_spans.ensures code
    ∙ (ap (λ cmp. holds_at c.place_of.result cmp code) c.comparison.ensures
    ∙ (sym (c.place_of.ensures.compares _ code inside)
    ∙ (sym (met-comparison c.args.wanted c.in-Compare.cmp v c.in-Compare.value.now) ∙ ap (λ a. is_met c.args.wanted a v) (sym c.in-Compare.is))))

pub returns-in-Between : goal.returns-in-Between
returns-in-Between c = λ code inside.
    let v = get_or (coded c.args.dict.now) code Null in
    c.between_spans.ensures code
    ∙ (met-between c.args.wanted c.place_of-in-Between.result c.place_of-in-Between-2.result c.args.dict.now c.in-Between.low.now c.in-Between.high.now code inside
    c.place_of-in-Between.ensures c.place_of-in-Between-2.ensures ∙ ap (λ a. is_met c.args.wanted a v) (sym c.in-Between.is))
