-- IN by look-ups: Yes where the value is one of the list, else Unknown where it or one of the list is NULL, else No.
use Rattle.std.proofs.Common.{◌≡◌, Bool, true, false, ◌||◌, ◌==◌, List, [], ◌∷◌, length, refl, sym, ap, ◌∙◌}
use Rattle.std.specs.Prelude.{if◌then◌else◌}
use Rattle.std.specs.declared.cmp.Ordering.{Ordering}
use Rattle.std.specs.declared.cmp.Ordering.TheVariants.{Less, Equal, Greater}
use Rattle.std.specs.Ordering.{is_eq, ordering_reverse}
use Rattle.im_values.specs.declared.truth.Truth.{Truth}
use Rattle.im_values.specs.declared.truth.Truth.TheVariants.{Yes, No, Unknown}
use Rattle.im_values.specs.declared.content.Content.{Content as Value}
use Rattle.im_values.specs.declared.content.Content.TheVariants.{Int, Text, Null}
use Rattle.im_values.specs.Order.{order, is_null}
use Rattle.im_values.specs.Truth as truth
use Rattle.im_values.proofs.ForCallers.{order_total}
use Rattle.im_syntax.specs.Choices.{has}
use Rattle.im_values.specs.Contents.{content_seen}
use Rattle.im_values.specs.declared.value.Seen.{Seen}
use Rattle.im_values.specs.declared.value.Seen.TheVariants as seen
use Rattle.im_eval.specs.Holds.{within_truth}

-- the truth where the value is one of the list or not, and where NULL is or not
abbrev pub looked_up : Bool → Bool → Truth
looked_up true null = Yes
looked_up false true = Unknown
looked_up false false = No

-- one more value before those: it is equal or not, and NULL or not
one_more : (equal null found nulls : Bool) → (null ≡ true → equal ≡ false) →
    truth.or (if null then Unknown else (if equal then Yes else No)) (looked_up found nulls) ≡ looked_up (equal || found) (null || nulls)
one_more true true found nulls apart = absurd (let e = apart refl in cc)
one_more false true true nulls apart = refl
one_more false true false true apart = refl
one_more false true false false apart = refl
one_more true false found nulls apart = refl
one_more false false found nulls apart = refl

is_eq-reverse : (o : Ordering) → is_eq (ordering_reverse o) ≡ is_eq o
is_eq-reverse Less = refl
is_eq-reverse Equal = refl
is_eq-reverse Greater = refl

is_eq-turned : (x y : Value) → is_eq (order x y) ≡ is_eq (order y x)
is_eq-turned x y = ap is_eq (order_total.antisymm x y) ∙ is_eq-reverse (order y x)

is_eq-null : (x : Value) → is_eq (order x Null) ≡ is_null x
is_eq-null (Int a) = refl
is_eq-null (Text a) = refl
is_eq-null Null = refl

apart-null : (x y : Value) → is_null x ≡ false → is_null y ≡ true → is_eq (order y x) ≡ false
apart-null x (Int b) some null = cc
apart-null x (Text b) some null = cc
apart-null x Null some null = is_eq-turned Null x ∙ is_eq-null x ∙ some

within_some : (value : Value) (choices : List Value) → is_null value ≡ false →
    within_truth value choices ≡ looked_up (has choices value) (has choices Null)
within_some value [] some = refl
within_some value (x ∷ choices) some =
    rw (some, is_eq-turned value x, is_eq-null x, within_some value choices some)
    (one_more (is_eq (order x value)) (is_null x) (has choices value) (has choices Null) (apart-null value x some))

not_null : (value : Value) → (value ≡ Null → ⊥) → is_null value ≡ false
not_null (Int a) apart = refl
not_null (Text a) apart = refl
not_null Null apart = absurd (apart refl)

-- the truth of a value that is not NULL, from what was looked up
pub within_looked : (value : Value) (choices : List Value) (found null : Bool) → (value ≡ Null → ⊥) → found ≡ has choices value → null ≡ has choices Null →
    looked_up found null ≡ within_truth value choices
within_looked value choices found null apart is is_null =
    ap (λ b. looked_up b null) is ∙ ap (looked_up (has choices value)) is_null ∙ sym (within_some value choices (not_null value apart))

unknown_more : (choices : List Value) → truth.or Unknown (within_truth Null choices) ≡ Unknown
unknown_more [] = refl
unknown_more (x ∷ choices) = rw (unknown_more choices) refl

-- the truth of NULL
pub within_null : (value : Value) (choices : List Value) → value ≡ Null → (length choices == 0) ≡ false → Unknown ≡ within_truth value choices
within_null value [] is filled = cc
within_null value (x ∷ choices) is filled = sym (ap (λ v. within_truth v (x ∷ choices)) is ∙ unknown_more choices)

-- a value is NULL only where it is seen so
pub seen_null : (s : Seen) → content_seen s ≡ Null → s ≡ seen.Null
seen_null (seen.Int n) e = cc
seen_null (seen.Text t) e = cc
seen_null seen.Null e = refl
