-- A look-up in sorted values finds what stands there.
use Rattle.std.proofs.Common.{◌≡◌, ℕ, ◌<◌, ◌≤◌, List, length, Ok, Err, Result, is_ok, ⊎_elim, sym, ap, ◌∙◌, arith}
use Rattle.std.specs.List.Sorted.{IsPermutation, IsSorted, IsBinarySearchResult, IsSearchInRange}
use Rattle.std.specs.Ordering.{is_eq}
use Rattle.std.proofs.lemmas.Bool.{cases_lt}
use Rattle.std.proofs.lemmas.List.Folds.{list_any_at, list_any_none}
use Rattle.std.proofs.lemmas.List.Sorted.{searchable_from_sorted, list_any-IsPermutation}
use Rattle.im_values.specs.declared.content.Content.{Content as Value}
use Rattle.im_values.specs.Order.{order}
use Rattle.im_values.proofs.ForCallers.{order_total}
use Rattle.im_syntax.specs.Choices.{has}
use Rattle.im_syntax.specs.inner.Ordered.{IsInOrder}

-- what a search gives as its outcome
pub searched : (ordered : List Value) (value : Value) (r : Result ℕ ℕ) → IsSorted order ordered → IsSearchInRange r (length ordered) →
    IsBinarySearchResult (λ (y : Value). order y value) ordered r → is_ok r ≡ has ordered value
searched ordered value (Ok place) sorted inside found =
    sym (list_any_at (λ choice. is_eq (order choice value)) ordered place value inside (ap is_eq (found value)))
searched ordered value (Err place) sorted inside found =
    let parts = found (searchable_from_sorted order_total (λ (y : Value). y) ordered value sorted) in
    sym (list_any_none (λ choice. is_eq (order choice value)) ordered (λ k d within.
    ⊎_elim (λ (below : k < place). ap is_eq (parts.0 k d (omega arith) below))
    (λ (above : place ≤ k). ap is_eq (parts.1 k d above within)) (cases_lt k place)))

-- sorted copies are the values in order
pub in-order : (written copies ordered : List Value) → copies ≡ written → IsPermutation copies ordered → IsSorted order ordered → IsInOrder written ordered
in-order written copies ordered is moved sorted = record {
  sorted = sorted;
  same = λ value.
      sym (list_any-IsPermutation (λ choice. is_eq (order choice value)) copies ordered moved) ∙ ap (λ l. has l value) is;
}
