use Rattle.std.proofs.Common.{◌≡◌, ◌∙◌, ◌++◌, ◌∷◌, [], List, ap, subst}
use Rattle.im_values.specs.declared.content.Content.{Content as Value}
use Rattle.im_codes.specs.Dictionary.{IsDictionaryOf}
use Rattle.im_column.proofs.repeated.dict_of_one.Goals as goal

pub returns : goal.returns
returns c =
    let is : c.as_slice.result.now ≡ c.args.value.now ∷ [] =
    c.as_slice.ensures.value
    ∙ (c.in_ok-push.ensures.items
    ∙ (ap (λ (l : List Value). l ++ c.in_ok-copy.field-0 ∷ []) c.in_ok-values.ensures.items
    ∙ ap (λ (v : Value). v ∷ []) c.in_ok-copy.ensures)) in
    subst (λ (l : List Value). IsDictionaryOf l c.in_ok-dict.dict) is c.in_ok-dict.ensures
