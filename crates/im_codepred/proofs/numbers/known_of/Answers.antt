use Rattle.std.proofs.Common.{Bool, sym, ap, ◌∙◌}
use Rattle.im_values.specs.declared.content.Content.{Content as Value}
use Rattle.im_values.specs.Order.{compare}
use Rattle.im_codepred.specs.declared.asked.Wanted.TheVariants.{Held}
use Rattle.im_codepred.specs.Asked.{met, is_met}
use Rattle.im_codepred.proofs.RowLemmas.{known-same}
use Rattle.im_codepred.proofs.SpanLemmas.{met-comparison}
use Rattle.im_codepred.proofs.numbers.known_of.Goals as goal

pub returns-in-Compare : goal.returns-in-Compare
returns-in-Compare c =
    let w = c.args.wanted in
    let value = c.in-Compare.value.now in
    let test : Value → Bool = λ x. met Held (compare x c.comparison.result value) in
    known-same c.compared.result test (is_met w c.args.asked.now)
    (λ x.
    ap (λ k. met Held (compare x k value)) c.comparison.ensures
    ∙ (sym (met-comparison w c.in-Compare.cmp x value) ∙ ap (λ a. is_met w a x) (sym c.in-Compare.is)))
    c.compared.ensures
