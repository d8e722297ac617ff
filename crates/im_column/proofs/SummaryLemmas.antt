-- One value more in a summary.
use Rattle.std.proofs.Common.{◌≡◌, Bool, true, false, ℕ, ℤ, pos, ◌+◌, ◌<◌, ◌≤◌, cond, List, [], ◌∷◌, ◌++◌, length, take, get_or, sym, refl, ap, ◌∙◌, arith}
use Rattle.std.proofs.lemmas.List.{take_more, take_all}
use Rattle.std.proofs.lemmas.List.Sums.{fold_push, sum_by_push}
use Rattle.im_values.specs.declared.content.Content.{Content as Value}
use Rattle.im_values.specs.Order.{is_null}
use Rattle.im_values.specs.Sizes.{value_bytes, plain_bytes}
use Rattle.im_column.specs.Summaries.{added}
use Rattle.im_column.specs.inner.Sized.{IsSummary}

pub summary-none : IsSummary [] 0 (pos 0) 0
unfolding plain_bytes
summary-none = record { is_nulls = refl; is_sum = refl; is_bytes = refl }

pub summary-more : (values : List Value) (i : ℕ) (value : Value) (n n' : ℕ) (s s' : ℤ) (b b' : ℕ) → i < length values → value ≡ get_or values i value →
    IsSummary (take i values) n s b → n' ≡ n + cond (is_null value) 1 0 → s' ≡ added s value → b' ≡ b + value_bytes value →
    IsSummary (take (i + 1) values) n' s' b'
unfolding plain_bytes
summary-more values i value n n' s s' b b' inside is before en es eb =
    let more : take (i + 1) values ≡ take i values ++ value ∷ [] = take_more values i value inside ∙ ap (λ x. take i values ++ x ∷ []) (sym is) in
    rw more (record {
      is_nulls = en ∙ (ap (λ k. k + cond (is_null value) 1 0) before.is_nulls ∙ sym (sum_by_push (λ v. cond (is_null v) 1 0) (take i values) value));
      is_sum = es ∙ (ap (λ t. added t value) before.is_sum ∙ sym (fold_push added (pos 0) (take i values) value));
      is_bytes = eb ∙ (ap (λ k. k + value_bytes value) before.is_bytes ∙ sym (sum_by_push value_bytes (take i values) value));
    })

pub summary-all : (values : List Value) (i n : ℕ) (s : ℤ) (b : ℕ) → length values ≤ i → IsSummary (take i values) n s b → IsSummary values n s b
summary-all values i n s b past before = rw (take_all i values past) at before

pub null-step : (n i : ℕ) (b : Bool) → n ≤ i → n + cond b 1 0 ≤ i + 1
null-step n i true few = omega arith
null-step n i false few = omega arith
