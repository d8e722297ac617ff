-- The rows of a part of a run, by their places, each with the defaults behind it.
use Rattle.std.proofs.Common.{◌≡◌, ℕ, ◌+◌, ◌<◌, ◌≤◌, List, [], ◌∷◌, zero, suc, length, map, take, drop, Some, refl, sym, ap, ◌∙◌, arith}
use Rattle.std.specs.List.{slice_get}
use Rattle.std.specs.Option.{option_map}
use Rattle.std.proofs.lemmas.List.{drop-drop, drop-map, length-drop, length-take-le, length-map, take-map}
use Rattle.std.proofs.lemmas.Option.{slice_get-map}
use Rattle.im_values.specs.declared.content.Content.{Content as Value}
use Rattle.im_values.specs.Widened.{widened}

abbrev Rows : Type 0
Rows = List (List Value)

-- how many rows a part has
pub length-run : (defaults : List Value) (rows : Rows) (first count : ℕ) → first + count ≤ length rows
    → length (map (widened defaults) (take count (drop first rows))) ≡ count
length-run defaults rows first count inside =
    let rest = length-drop first rows in
    length-map (take count (drop first rows)) (widened defaults) ∙ length-take-le count (drop first rows) (omega (arith, rest, inside))

at-taken : (rows : Rows) (count at : ℕ) → at < count → slice_get (take count rows) at ≡ slice_get rows at
at-taken rows zero at within = absurd (omega (arith, within))
at-taken [] (suc count) at within = refl
at-taken (row ∷ rows) (suc count) zero within = refl
at-taken (row ∷ rows) (suc count) (suc at) within = at-taken rows count at (omega (arith, within))

at-dropped : (rows : Rows) (first at : ℕ) → slice_get (drop first rows) at ≡ slice_get rows (first + at)
at-dropped rows zero at = let same : at ≡ 0 + at = omega arith in ap (slice_get rows) same
at-dropped [] (suc first) at = refl
at-dropped (row ∷ rows) (suc first) at =
    let next : suc (first + at) ≡ suc first + at = omega arith in at-dropped rows first at ∙ ap (slice_get (row ∷ rows)) next

-- the row at a place of a part
pub row-there : (defaults : List Value) (rows : Rows) (first count at : ℕ) (row : List Value) → at < count → slice_get rows (first + at) ≡ Some row
    → slice_get (map (widened defaults) (take count (drop first rows))) at ≡ Some (widened defaults row)
row-there defaults rows first count at row within is =
    slice_get-map (widened defaults) (take count (drop first rows)) at
    ∙ ap (option_map (widened defaults)) (at-taken (drop first rows) count at within ∙ (at-dropped rows first at ∙ is))

take-few : (rows : Rows) (n m : ℕ) → n ≤ m → take n rows ≡ take n (take m rows)
take-few rows zero m few = refl
take-few rows (suc n) zero few = absurd (omega (arith, few))
take-few [] (suc n) (suc m) few = refl
take-few (row ∷ rows) (suc n) (suc m) few = ap (λ (rs : Rows). row ∷ rs) (take-few rows n m (omega (arith, few)))

part-taken : (rows : Rows) (count from n : ℕ) → from + n ≤ count → take n (drop from rows) ≡ take n (drop from (take count rows))
part-taken rows count zero n few = take-few rows n count (omega (arith, few))
part-taken rows zero (suc from) n few = absurd (omega (arith, few))
part-taken [] (suc count) (suc from) n few = refl
part-taken (row ∷ rows) (suc count) (suc from) n few = part-taken rows count from n (omega (arith, few))

-- a part of a part
pub part-there : (defaults : List Value) (rows : Rows) (first count from n : ℕ) → from + n ≤ count
    → map (widened defaults) (take n (drop (first + from) rows)) ≡ take n (drop from (map (widened defaults) (take count (drop first rows))))
part-there defaults rows first count from n few =
    ap (λ (rs : Rows). map (widened defaults) (take n rs)) (sym (drop-drop from first rows))
    ∙ (ap (map (widened defaults)) (part-taken (drop first rows) count from n few)
    ∙ (sym (take-map (widened defaults) n (drop from (take count (drop first rows))))
    ∙ ap (take n) (sym (drop-map (widened defaults) from (take count (drop first rows))))))
