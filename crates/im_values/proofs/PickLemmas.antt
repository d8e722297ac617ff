-- Rows that are picked of two blocks, by their places.
use Rattle.std.proofs.Common.{◌≡◌, ℕ, ◌+◌, ◌-◌, ◌<◌, ◌≤◌, List, [], ◌∷◌, ◌++◌, zero, suc, length, take, drop, Some, refl, sym, ap, ◌∙◌, get_or, arith}
use Rattle.std.specs.List.{slice_get}
use Rattle.std.proofs.lemmas.List.{drop-drop, get_or_append_left, get_or-append-add}
use Rattle.im_values.specs.declared.content.Content.{Content as Value}
use Rattle.std.specs.Arc.{arc_value}
use Rattle.std.specs.declared.alloc.Global.{Global}
use Rattle.std.specs.declared.sync.Arc.{Arc}
use Rattle.im_values.specs.declared.rows.Form.{Form}
use Rattle.im_values.specs.declared.rows.Form.TheVariants.{Laid, Picked}
use Rattle.im_values.specs.declared.rows.Picks.{Picks}
use Rattle.im_values.specs.Runs.{picked, rows_in, rows_of_both, LieInside}
use Rattle.im_values.proofs.RunLemmas.{length-cut}

-- so many rows are picked
pub length-picked : (rows : List (List Value)) (places : List ℕ) → length (picked rows places) ≡ length places
length-picked rows [] = refl
length-picked rows (place ∷ places) = ap suc (length-picked rows places)

-- the row at a place among them
pub get-picked : (rows : List (List Value)) (places : List ℕ) (at : ℕ) → at < length places → slice_get (picked rows places) at ≡ Some (get_or rows (get_or places at 0) [])
get-picked rows [] at within = absurd (omega (arith, within))
get-picked rows (place ∷ places) zero within = refl
get-picked rows (place ∷ places) (suc at) within = get-picked rows places at (omega (arith, within))

get-take : (places : List ℕ) (count at : ℕ) → at < count → get_or (take count places) at 0 ≡ get_or places at 0
get-take places zero at within = absurd (omega (arith, within))
get-take [] (suc count) at within = refl
get-take (place ∷ places) (suc count) zero within = refl
get-take (place ∷ places) (suc count) (suc at) within = get-take places count at (omega (arith, within))

get-drop : (places : List ℕ) (first at : ℕ) → get_or (drop first places) at 0 ≡ get_or places (first + at) 0
get-drop places zero at = let is : at ≡ 0 + at = omega arith in ap (λ (n : ℕ). get_or places n 0) is
get-drop [] (suc first) at = refl
get-drop (place ∷ places) (suc first) at =
    let next : suc (first + at) ≡ suc first + at = omega arith in
    get-drop places first at ∙ ap (λ (n : ℕ). get_or (place ∷ places) n 0) next

-- so many places from one on
pub get-part : (places : List ℕ) (first count at : ℕ) → at < count → get_or (take count (drop first places)) at 0 ≡ get_or places (first + at) 0
get-part places first count at within = get-take (drop first places) count at within ∙ get-drop places first at

-- a part of places that are there is as long as it is said to be
pub length-part : (places : List ℕ) (first count : ℕ) → first + count ≤ length places → length (take count (drop first places)) ≡ count
length-part places zero zero within = refl
length-part [] zero (suc count) within = absurd (omega (arith, within))
length-part (place ∷ places) zero (suc count) within = ap suc (length-part places zero count (omega (arith, within)))
length-part [] (suc first) count within = absurd (omega (arith, within))
length-part (place ∷ places) (suc first) count within = length-part places first count (omega (arith, within))

take-take : (places : List ℕ) (n m : ℕ) → n ≤ m → take n places ≡ take n (take m places)
take-take places zero m few = refl
take-take places (suc n) zero few = absurd (omega (arith, few))
take-take [] (suc n) (suc m) few = refl
take-take (place ∷ places) (suc n) (suc m) few = ap (λ (l : List ℕ). place ∷ l) (take-take places n m (omega (arith, few)))

drop-part : (places : List ℕ) (count from n : ℕ) → from + n ≤ count → take n (drop from places) ≡ take n (drop from (take count places))
drop-part places count zero n few = take-take places n count (omega (arith, few))
drop-part places zero (suc from) n few = absurd (omega (arith, few))
drop-part [] (suc count) (suc from) n few = refl
drop-part (place ∷ places) (suc count) (suc from) n few = drop-part places count from n (omega (arith, few))

-- a part of a part
part-part : (places : List ℕ) (first count from n : ℕ) → from + n ≤ count → take n (drop (first + from) places) ≡ take n (drop from (take count (drop first places)))
part-part places first count from n few =
    ap (take n) (sym (drop-drop from first places)) ∙ drop-part (drop first places) count from n few

picked-drop : (rows : List (List Value)) (places : List ℕ) (n : ℕ) → picked rows (drop n places) ≡ drop n (picked rows places)
picked-drop rows places zero = refl
picked-drop rows [] (suc n) = refl
picked-drop rows (place ∷ places) (suc n) = picked-drop rows places n

picked-take : (rows : List (List Value)) (places : List ℕ) (n : ℕ) → picked rows (take n places) ≡ take n (picked rows places)
picked-take rows places zero = refl
picked-take rows [] (suc n) = refl
picked-take rows (place ∷ places) (suc n) = ap (λ (l : List (List Value)). get_or rows place [] ∷ l) (picked-take rows places n)

-- the rows from a place on
pub part-picked : (rows : List (List Value)) (places : List ℕ) (first count from n : ℕ) → from + n ≤ count →
    picked rows (take n (drop (first + from) places)) ≡ take n (drop from (picked rows (take count (drop first places))))
part-picked rows places first count from n few =
    ap (picked rows) (part-part places first count from n few)
    ∙ (picked-take rows (drop from (take count (drop first places))) n
    ∙ ap (take n) (picked-drop rows (take count (drop first places)) from))

-- a row of the first block
pub get-first : (first others : List (List Value)) (count place : ℕ) → length first ≡ count → place < count → get_or (first ++ others) place [] ≡ get_or first place []
get-first first others count place long within = get_or_append_left first others [] place (omega (arith, long, within))

-- a row of the second one
pub get-other : (first others : List (List Value)) (count place : ℕ) → length first ≡ count → count ≤ place → get_or (first ++ others) place [] ≡ get_or others (place - count) []
get-other first others count place long behind =
    let is : length first + (place - count) ≡ place = omega (arith, long, behind) in
    ap (λ (n : ℕ). get_or (first ++ others) n []) (sym is) ∙ get_or-append-add first others (place - count) []

-- so many rows are kept
pub length-in : (form : Form) (first width count : ℕ) → LieInside form first width count → length (rows_in form first width count) ≡ count
length-in (Laid block) first width count inside = length-cut count width (drop first (arc_value block).items)
length-in (Picked picks) first width count inside =
    length-picked (rows_of_both (arc_value picks) width) (take count (drop first (arc_value picks).places.items))
    ∙ length-part (arc_value picks).places.items first count inside.1

-- so many rows from a place on lie inside too, and are those of the places from there on
pub part-in : (form : Form) (picks : Arc Picks Global) (first width count from n : ℕ) → form ≡ Picked picks → LieInside form first width count →
    from + n ≤ length (rows_in form first width count) → rows_in form (first + from) width n ≡ take n (drop from (rows_in form first width count))
part-in form picks first width count from n is inside few =
    let long = length-in form first width count inside in
    rw (is) (part-picked (rows_of_both (arc_value picks) width) (arc_value picks).places.items first count from n (omega (arith, long, few)))
