-- The rows of tuples, as one block of values that is cut into rows.
use Rattle.std.proofs.Common.{◌≡◌, ℕ, ◌+◌, ◌*◌, ◌<◌, List, [], ◌∷◌, ◌++◌, length, get_or, take, map, refl, ap, ◌∙◌, arith, add-one}
use Rattle.std.proofs.lemmas.List.{length-append}
use Rattle.im_values.specs.declared.content.Content.{Content as Value}
use Rattle.im_values.specs.Stretches.{cut}
use Rattle.im_values.proofs.ForCallers.{cut-push}
use Rattle.im_syntax.specs.declared.literal.Lit.{Lit}
use Rattle.im_names.proofs.MapLemmas.{map_goes}

one_more : (count width : ℕ) → count * width + width ≡ (count + 1) * width
one_more count width = grind arith

-- the values of one more tuple's row stand behind those of the tuples before it
pub block_goes : (row : List Lit → List Value) (width : ℕ) (tuples : List (List Lit)) (i : ℕ) (tuple : List Lit) (values new : List Value) →
    length (row tuple) ≡ width → i < length tuples → tuple ≡ get_or tuples i tuple → new ≡ values ++ row tuple →
    cut i width values ≡ map row (take i tuples) → length values ≡ i * width →
    (cut (i + 1) width new ≡ map row (take (i + 1) tuples)) × (length new ≡ (i + 1) * width)
block_goes row width tuples i tuple values new wide lt is grown made long =
    let next : cut (i + 1) width (values ++ row tuple) ≡ cut i width values ++ row tuple ∷ [] = rw add-one (cut-push i width values (row tuple) long wide) in
    let total : length new ≡ length values + length (row tuple) = ap length grown ∙ length-append values (row tuple) in
    let more = one_more i width in (
      map_goes row tuples i tuple (cut i width values) (cut (i + 1) width new) (row tuple) lt is refl (ap (cut (i + 1) width) grown ∙ next) made,
      omega (arith, total, wide, long, more),
    )
