-- How many values the rows of a run have, and what they are once they are lengthened.
use Rattle.std.proofs.Common.{◌≡◌, ℕ, ◌+◌, ◌*◌, ◌<◌, ◌≤◌, List, [], ◌∷◌, zero, suc, All, length, take, drop, refl, sym, ap, subst, ◌∙◌, get_or, length-append, arith}
use Rattle.std.specs.Arc.{arc_value}
use Rattle.std.proofs.lemmas.List.{length-drop}
use Rattle.std.proofs.lemmas.List.Elements.{All-nil, All-cons, All-head, All-tail, All-append, All-take, All-drop}
use Rattle.im_values.specs.declared.content.Content.{Content as Value}
use Rattle.im_values.specs.declared.rows.Form.{Form}
use Rattle.im_values.specs.declared.rows.Form.TheVariants.{Laid, Picked}
use Rattle.im_values.specs.Runs.{picked, rows_in, rows_of_both, LieInside}
use Rattle.im_values.specs.Stretches.{cut}
use Rattle.im_values.proofs.RunLemmas.{length-cut}

abbrev Wide : ℕ → List Value → Type 0
Wide width row = length row ≡ width

length-taken : (n : ℕ) (values : List Value) → n ≤ length values → length (take n values) ≡ n
length-taken zero values within = refl
length-taken (suc n) [] within = absurd (omega (arith, within))
length-taken (suc n) (value ∷ values) within = ap suc (length-taken n values (omega (arith, within)))

one_more : (count width : ℕ) → suc count * width ≡ width + count * width
one_more count width = grind arith

wide-cut : (count width : ℕ) (values : List Value) → count * width ≤ length values → All (Wide width) (cut count width values)
wide-cut zero width values within = All-nil (Wide width)
wide-cut (suc count) width values within =
    let all = one_more count width in
    let rest = length-drop width values in
    All-cons (Wide width) (take width values) (cut count width (drop width values)) (length-taken width values (omega (arith, all, within)))
    (wide-cut count width (drop width values) (omega (arith, all, within, rest)))

wide-at : (width : ℕ) (rows : List (List Value)) (place : ℕ) → All (Wide width) rows → place < length rows → Wide width (get_or rows place [])
wide-at width [] place all within = absurd (omega (arith, within))
wide-at width (row ∷ rows) zero all within = All-head (Wide width) row rows all
wide-at width (row ∷ rows) (suc place) all within = wide-at width rows place (All-tail (Wide width) row rows all) (omega (arith, within))

wide-picked : (width : ℕ) (rows : List (List Value)) (places : List ℕ) → All (Wide width) rows → All (λ place. place < length rows) places
    → All (Wide width) (picked rows places)
wide-picked width rows [] all within = All-nil (Wide width)
wide-picked width rows (place ∷ places) all within =
    All-cons (Wide width) (get_or rows place []) (picked rows places)
    (wide-at width rows place all (All-head (λ p. p < length rows) place places within))
    (wide-picked width rows places all (All-tail (λ p. p < length rows) place places within))

-- each row of a run has so many values
pub wide-in : (form : Form) (first width count : ℕ) → LieInside form first width count → All (λ row. length row ≡ width) (rows_in form first width count)
wide-in (Laid block) first width count inside =
    let rest = length-drop first (arc_value block).items in
    wide-cut count width (drop first (arc_value block).items) (omega (arith, rest, inside))
wide-in (Picked picks) first width count inside =
    let block = (arc_value (arc_value picks).block).items in
    let others = (arc_value (arc_value picks).others).items in
    let start = (arc_value picks).first in
    let laid = inside.0.laid in
    let rest = length-drop start block in
    let one = length-cut (arc_value picks).count width (drop start block) in
    let two = length-cut (arc_value picks).more width others in
    let long : length (rows_of_both (arc_value picks) width) ≡ (arc_value picks).count + (arc_value picks).more =
    length-append (cut (arc_value picks).count width (drop start block)) (cut (arc_value picks).more width others) ∙ omega (arith, one, two) in
    wide-picked width (rows_of_both (arc_value picks) width) (take count (drop first (arc_value picks).places.items))
    (All-append (Wide width) (cut (arc_value picks).count width (drop start block)) (cut (arc_value picks).more width others)
    (wide-cut (arc_value picks).count width (drop start block) (omega (arith, rest, laid))) (wide-cut (arc_value picks).more width others inside.0.others))
    (All-take (λ place. place < length (rows_of_both (arc_value picks) width)) count (drop first (arc_value picks).places.items)
    (All-drop (λ place. place < length (rows_of_both (arc_value picks) width)) first (arc_value picks).places.items
    (subst (λ (n : ℕ). All (λ place. place < n) (arc_value picks).places.items) (sym long) inside.0.places)))
