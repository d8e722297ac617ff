-- What a column keeps of its values.
use Rattle.std.proofs.Common.{◌≡◌, ℕ, ℤ, ◌<◌, List, length, count_by, ap, refl, subst, sym, ◌∙◌}
use Rattle.im_values.specs.declared.content.Content.{Content as Value}
use Rattle.im_values.specs.Order.{is_null}
use Rattle.im_values.specs.Sizes.{dictionary, plain_bytes}
use Rattle.im_codes.specs.Dictionary.{coded, values_at}
use Rattle.im_column.specs.Forms.{AreKeptFor}
use Rattle.im_column.specs.Summaries.{sum_of}
use Rattle.im_index.specs.Bounds.{bounds_of, bounds_with}
use Rattle.im_index.specs.declared.bounds.Bounds.{Bounds}
use Rattle.im_column.specs.declared.form.Kept.{Kept}
use Rattle.im_column.specs.inner.Sized.{values_of, AreSizes, IsKeptFor, IsCountedFor, IsSummedFor}

pub assembled : (values : List Value) (form : Kept) (bytes : ℕ) (bounds : Bounds) (sum sum' : ℤ) → IsCountedFor values form bytes → bounds ≡ bounds_of values →
    sum ≡ sum_of values → sum' ≡ sum → length values < 2147483648 →
    IsKeptFor (values_of form) form × IsSummedFor (values_of form) bytes bounds sum' × (length (values_of form) < 2147483648)
assembled values form bytes bounds sum sum' counted is_bounds is_sum same few =
    rw counted.stands (counted.kept, record { is_bytes = counted.least; is_bounds = is_bounds; is_sum = same ∙ is_sum }, few)

pub bounded : (values rising : List Value) (bounds : Bounds) (nulls : ℕ) → rising ≡ dictionary values → nulls ≡ count_by is_null values →
    bounds ≡ bounds_with rising nulls → bounds ≡ bounds_of values
bounded values rising bounds nulls is many e = e ∙ (ap (λ l. bounds_with l nulls) is ∙ ap (bounds_with (dictionary values)) many)

-- what is counted for values is counted for those that the form stands for
pub own-counted : (values : List Value) (form : Kept) (bytes : ℕ) → IsCountedFor values form bytes → IsCountedFor (values_of form) form bytes
own-counted values form bytes counted = subst (λ v. IsCountedFor v form bytes) (sym counted.stands) counted

-- what is kept for values is kept for those that the codes stand for
pub own-kept : (values dict : List Value) (codes : List ℕ) → AreKeptFor values dict codes → AreKeptFor (values_at (coded dict) codes) dict codes
own-kept values dict codes kept = subst (λ v. AreKeptFor v dict codes) (sym kept.are_codes.same) kept

-- and so are the sizes of the forms
pub own-sizes : (values own : List Value) (plain coded runs : ℕ) → own ≡ values → AreSizes values plain coded runs → AreSizes own (plain_bytes own) coded runs
own-sizes values own plain coded runs is sizes =
    let there : AreSizes own plain coded runs = subst (λ v. AreSizes v plain coded runs) (sym is) sizes in
    record { plain = refl; coded = there.coded; runs = there.runs }
