-- The rows of a run, by their places in its block.
use Rattle.std.proofs.Common.{◌≡◌, ℕ, ◌+◌, ◌-◌, ◌*◌, ◌<◌, ◌≤◌, List, [], ◌∷◌, zero, suc, length, take, drop, Some, refl, sym, ap, ◌∙◌, arith}
use Rattle.std.specs.List.{slice_get, slice_range}
use Rattle.std.proofs.lemmas.List.{drop-drop, drop-take}
use Rattle.im_values.specs.declared.content.Content.{Content as Value}
use Rattle.im_values.specs.Stretches.{cut}

-- so many rows are cut
pub length-cut : (count width : ℕ) (values : List Value) → length (cut count width values) ≡ count
length-cut zero width values = refl
length-cut (suc count) width values = ap suc (length-cut count width (drop width values))

next : (first rows width : ℕ) → first + width + rows * width ≡ first + suc rows * width
next first rows width = grind arith

-- the first row begins where the run does
first_row : (first width : ℕ) (values : List Value) → drop first values ≡ drop (first + 0 * width) values
first_row first width values = ap (λ (n : ℕ). drop n values) (grind arith)

-- the row at a place
pub get-cut : (count at width first : ℕ) (values : List Value) → at < count →
    slice_get (cut count width (drop first values)) at ≡ Some (take width (drop (first + at * width) values))
get-cut zero at width first values within = absurd (omega (arith, within))
get-cut (suc count) zero width first values within = ap (λ (l : List Value). Some (take width l)) (first_row first width values)
get-cut (suc count) (suc at) width first values within =
    ap (λ (l : List Value). slice_get (cut count width l) at) (drop-drop width first values)
    ∙ (get-cut count at width (first + width) values (omega (arith, within))
    ∙ ap (λ (n : ℕ). Some (take width (drop n values))) (next first at width))

take-cut : (count n width : ℕ) (values : List Value) → n ≤ count → cut n width values ≡ take n (cut count width values)
take-cut count zero width values within = refl
take-cut zero (suc n) width values within = absurd (omega (arith, within))
take-cut (suc count) (suc n) width values within =
    ap (λ (l : List (List Value)). take width values ∷ l) (take-cut count n width (drop width values) (omega (arith, within)))

-- the rows from a place on
pub part-cut : (count from n width first : ℕ) (values : List Value) → from + n ≤ count →
    cut n width (drop (first + from * width) values) ≡ take n (drop from (cut count width (drop first values)))
part-cut count zero n width first values within =
    ap (cut n width) (sym (first_row first width values)) ∙ take-cut count n width (drop first values) (omega (arith, within))
part-cut zero (suc from) n width first values within = absurd (omega (arith, within))
part-cut (suc count) (suc from) n width first values within =
    ap (λ (k : ℕ). cut n width (drop k values)) (sym (next first from width))
    ∙ (part-cut count from n width (first + width) values (omega (arith, within))
    ∙ ap (λ (l : List Value). take n (drop from (cut count width l))) (sym (drop-drop width first values)))

-- a row lies within what is left behind those before it
pub one_row : (rows count width : ℕ) → rows < count → width ≤ (count - rows) * width
one_row rows count width few = grind (arith, few)

-- and so do more of them
pub more_rows : (rows n count width : ℕ) → rows + n ≤ count → n * width ≤ (count - rows) * width
more_rows rows n count width few = grind (arith, few)

wide : (at width : ℕ) → width ≡ at + width - at
wide at width = omega arith

-- the values of a row, as a range of its block
pub row_range : (at start width : ℕ) (values : List Value) → start ≡ at → take width (drop at values) ≡ slice_range values start (start + width)
row_range at start width values is =
    ap (λ (n : ℕ). take n (drop at values)) (wide at width) ∙ ap (λ (n : ℕ). slice_range values n (n + width)) (sym is)

-- ---- the values of rows behind one another

take-none : (n : ℕ) → take {A = Value} n [] ≡ []
take-none zero = refl
take-none (suc n) = refl

take-within : (n m : ℕ) (values : List Value) → take n (take (n + m) values) ≡ take n values
take-within zero m values = refl
take-within (suc n) m [] = ap (λ (l : List Value). take (suc n) l) (take-none (suc n + m))
take-within (suc n) m (value ∷ values) =
    let next : suc n + m ≡ suc (n + m) = omega arith in
    ap (λ (k : ℕ). take (suc n) (take k (value ∷ values))) next ∙ ap (λ (l : List Value). value ∷ l) (take-within n m values)

more : (n width : ℕ) → suc n * width ≡ width + n * width
more n width = grind arith

-- no more values are needed than the rows have
pub cut-take : (n width : ℕ) (values : List Value) → cut n width (take (n * width) values) ≡ cut n width values
cut-take zero width values = refl
cut-take (suc n) width values =
    ap (λ (k : ℕ). cut (suc n) width (take k values)) (more n width)
    ∙ (ap (λ (row : List Value). row ∷ cut n width (drop width (take (width + n * width) values))) (take-within width (n * width) values)
    ∙ ap (λ (l : List (List Value)). take width values ∷ l)
    (ap (cut n width) (drop-take width (n * width) values) ∙ cut-take n width (drop width values)))

-- the values of rows from a place of their block on
pub range-cut : (n width start : ℕ) (values : List Value) → cut n width (slice_range values start (start + n * width)) ≡ cut n width (drop start values)
range-cut n width start values =
    ap (λ (k : ℕ). cut n width (take k (drop start values))) (sym (wide start (n * width))) ∙ cut-take n width (drop start values)
