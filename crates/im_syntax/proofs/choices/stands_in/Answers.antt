use Rattle.std.proofs.Common.{rules, of_calls, ◌∙◌}
use Rattle.std.proofs.lemmas.Fn.{always_returns_same}
use Rattle.im_values.specs.declared.content.Content.{Content as Value}
use Rattle.im_values.specs.Order.{order}
use Rattle.im_syntax.proofs.ChoicesLemmas.{searched}
use Rattle.im_syntax.proofs.choices.stands_in.Goals as goal

pub returns : goal.returns
returns c =
    let found =
    c.binary_search_by.ensures.position (λ (y : Value). order y c.args.value.now) (always_returns_same _ _ _ (λ a r f k. search (rules, of_calls))) in
    c.is_ok.ensures.value
    ∙ searched c.args.ordered.now c.args.value.now c.binary_search_by.result c.requires c.binary_search_by.ensures.bound found
