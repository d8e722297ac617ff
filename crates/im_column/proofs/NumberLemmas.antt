-- Whole numbers as values of a column.
use Rattle.std.proofs.Common.{◌≡◌, ℕ, ℤ, pos, ◌<◌, List, [], ◌∷◌, ◌++◌, length, get_or, All, ap, arith}
use Rattle.std.specs.List.Sorted.{IsStrictlySortedBy}
use Rattle.std.proofs.lemmas.List.{length-map, get_or-map, map_push}
use Rattle.im_values.specs.declared.content.Content.{Content as Value}
use Rattle.im_values.specs.declared.content.Content.TheVariants.{Int}
use Rattle.im_values.specs.Order.{order, is_null}
use Rattle.im_codes.specs.Dictionary.{whole}
use Rattle.im_column.specs.Forms.{IsShort}
use Rattle.im_column.specs.inner.Sized.{AreRising}

pub length-whole : (ns : List ℤ) → length (whole ns) ≡ length ns
length-whole ns = length-map ns (λ (n : ℤ). Int n)

-- the value of the number at a place
pub whole-at : (ns : List ℤ) (i : ℕ) (n : ℤ) (d : Value) → i < length ns → get_or (whole ns) i d ≡ Int (get_or ns i n)
whole-at ns i n d inside = get_or-map (λ (n : ℤ). Int n) ns i n d inside

pub whole-push : (ns : List ℤ) (n : ℤ) → whole (ns ++ n ∷ []) ≡ whole ns ++ Int n ∷ []
whole-push ns n = map_push (λ (n : ℤ). Int n) ns n

-- each counts for nine bytes
pub short-whole : (ns : List ℤ) → All IsShort (whole ns)
short-whole ns k d inside = rw (whole-at ns k (pos 0) d (omega (arith, length-whole ns, inside))) (omega arith)

-- those that rise are values that do
pub rising-whole : (ns : List ℤ) → IsStrictlySortedBy order (whole ns) → AreRising (whole ns)
rising-whole ns sorted = record {
  sorted = sorted;
  some = λ k d inside. ap is_null (whole-at ns k (pos 0) d (omega (arith, length-whole ns, inside)));
}
