-- Weights of parts of a row and of changes.
use Rattle.std.proofs.Common.{◌≡◌, ℕ, zero, suc, ◌+◌, ◌<◌, List, [], ◌∷◌, length, take, get_or, Option, None, Some, ap, ◌∙◌, arith}
use Rattle.std.specs.Prelude.{slice_get}
use Rattle.im_values.specs.declared.limits.TheConstants.{CHANGE_WEIGHT}
use Rattle.im_values.specs.declared.content.Content.{Content as Value}
use Rattle.im_history.specs.declared.change.Change.{Change}
use Rattle.im_history.specs.Weights.{value_weight, row_weight, put_weight, changes_weight}

-- the weight of the first values and one more
pub row_weight-next : (values : List Value) (i : ℕ) (d : Value) → i < length values
    → row_weight (take (i + 1) values) ≡ row_weight (take i values) + value_weight (get_or values i d)
row_weight-next [] i d within = absurd (omega arith)
row_weight-next (value ∷ values) zero d within = omega arith
row_weight-next (value ∷ values) (suc i) d within =
    let rest = row_weight-next values i d (omega arith) in
    let next : suc i + 1 ≡ suc (i + 1) = omega arith in
    ap (λ n. row_weight (take n (value ∷ values))) next ∙ omega (arith, rest)

-- the weight of the first changes and one more
pub changes_weight-found : (changes : List Change) (i : ℕ) (change : Change) → slice_get changes i ≡ Some change
    → changes_weight (take (i + 1) changes) ≡ changes_weight (take i changes) + (CHANGE_WEIGHT + put_weight change.row)
changes_weight-found [] i change is = absurd cc
changes_weight-found (first ∷ changes) zero change is =
    let same = ap (λ (o : Option Change). weight_of_found o) is in omega (arith, same)
  where
    weight_of_found : Option Change → ℕ
    weight_of_found None = 0
    weight_of_found (Some c) = put_weight c.row
changes_weight-found (first ∷ changes) (suc i) change is =
    let rest = changes_weight-found changes i change is in
    let next : suc i + 1 ≡ suc (i + 1) = omega arith in
    ap (λ n. changes_weight (take n (first ∷ changes))) next ∙ omega (arith, rest)
