use Rattle.std.proofs.Common.{◌≡◌, ◌∙◌, List, ap, subst}
use Rattle.std.specs.Prelude.{IfOk, IfSome}
use Rattle.im_values.specs.declared.content.Content.{Content as Value}
use Rattle.im_codes.specs.Dictionary.{coded, values_at, whole}
use Rattle.im_column.proofs.numbers.numbers_coded.Goals as goal

pub returns-in-Some : goal.returns-in-Some
returns-in-Some c =
    let dict = rw c.in-Some.is at c.in_ok-distinct.ensures in
    subst (λ (v : List Value). IfOk c.numbers_by.result (λ found. IfSome found (λ numbers. whole numbers.items ≡ values_at (coded v) c.args.codes.now)))
    (ap whole c.as_slice.ensures.value ∙ dict) c.numbers_by.ensures
