-- First notes of row numbers.
use Rattle.std.proofs.Common.{◌≡◌, ℕ, zero, suc, ◌-◌, ◌<◌, ◌≤◌, Bool, true, false, ◌||◌, ◌==◌, nat_eq, nat_le, List, [], ◌∷◌, ◌++◌, length, take, map, get_or, get_or-take, length-take, Some, sym, refl, ap, ◌∙◌, arith}
use Rattle.std.specs.List.{list_any, IsDistinct}
use Rattle.std.specs.List.Sorted.{IsNonDecreasing, IsNonDecreasingBy, IsPartitionPoint, IsPermutation, IsSorted}
use Rattle.std.specs.Option.{option_map}
use Rattle.std.specs.Ordering.{nat_cmp}
use Rattle.std.proofs.lemmas.List.{take-map, length-map, get_or-map}
use Rattle.std.proofs.lemmas.Map.Keys.{IsDistinct-from_apart, apart_from_distinct}
use Rattle.std.proofs.lemmas.List.Sorted.{IsNonDecreasingBy-push}
use Rattle.std.proofs.lemmas.Option.{slice_get-get_or}
use Rattle.indexmap.specs.IndexMap.{insert_entry}
use Rattle.im_journal.specs.Stale.{Note, last_scn, is_noted, noted, rows_of, notes_to, rising, stale_rows, stale_rows_at}
use Rattle.im_journal.proofs.RisingLemmas.{sorted_is_rising, length-rising}

-- a row number was noted where it is among the row numbers
pub any-rows_of : (row : ℕ) (notes : List Note) → list_any (nat_eq row) (rows_of notes) ≡ is_noted notes row
any-rows_of row [] = refl
any-rows_of row (note ∷ notes) = ap (λ b. nat_eq row note.0 || b) (any-rows_of row notes)

or_left : (a b : Bool) → a || b ≡ false → a ≡ false
or_left true b none = none
or_left false b none = refl

or_right : (a b : Bool) → a || b ≡ false → b ≡ false
or_right true true none = none
or_right true false none = refl
or_right false b none = none

-- the first note of a row number goes last
pub insert_entry-new : (notes : List Note) (row scn : ℕ) → is_noted notes row ≡ false → insert_entry nat_eq notes row scn ≡ notes ++ (row, scn) ∷ []
insert_entry-new [] row scn none = refl
insert_entry-new (note ∷ notes) row scn none =
    rw (or_left (row == note.0) (is_noted notes row) none) (ap (λ l. note ∷ l)
    (insert_entry-new notes row scn (or_right (row == note.0) (is_noted notes row) none)))

-- the SCNs do not fall
pub later-push : (notes : List Note) (row scn : ℕ) → IsNonDecreasingBy (λ (note : Note). note.1) notes →
    ((last : ℕ) → last_scn notes ≡ Some last → last ≤ scn) → IsNonDecreasingBy (λ (note : Note). note.1) (notes ++ (row, scn) ∷ [])
later-push notes row scn up later =
    IsNonDecreasingBy-push (λ (note : Note). note.1) notes (row, scn) up
    (λ d some. later (get_or notes (length notes - 1) d).1
    (ap (option_map (λ (note : Note). note.1)) (slice_get-get_or notes (length notes - 1) d (omega arith))))

-- where it was not noted, it is one note more
pub noted-new : (notes : List Note) (row scn : ℕ) → is_noted notes row ≡ false → notes ++ (row, scn) ∷ [] ≡ noted notes (row, scn)
noted-new notes row scn none = rw none refl

-- where it was, all stays
pub noted-again : (notes : List Note) (row scn : ℕ) → is_noted notes row ≡ true → notes ≡ noted notes (row, scn)
noted-again notes row scn there = rw there refl

-- the SCNs by themselves do not fall
pub scns_rise : (notes : List Note) → IsNonDecreasingBy (λ (note : Note). note.1) notes → IsNonDecreasing (map (λ (note : Note). note.1) notes)
scns_rise notes up i j d l h =
    let long : length (map (λ (note : Note). note.1) notes) ≡ length notes = length-map notes (λ (note : Note). note.1) in
    let at_i : get_or (map (λ (note : Note). note.1) notes) i d ≡ (get_or notes i (0, d)).1 =
    get_or-map (λ (note : Note). note.1) notes i (0, d) d (omega arith) in
    let at_j : get_or (map (λ (note : Note). note.1) notes) j d ≡ (get_or notes j (0, d)).1 =
    get_or-map (λ (note : Note). note.1) notes j (0, d) d (omega arith) in
    rw (at_i, at_j) (up i j (0, d) l (omega arith))

-- where the first SCNs are at or below one and the others above, a filter keeps the first notes
notes_to-partitioned : (scn : ℕ) (notes : List Note) (i : ℕ) →
    ((k d : ℕ) → 0 ≤ k → k < i → nat_le (get_or (map (λ (note : Note). note.1) notes) k d) scn ≡ true) × ((k d : ℕ) → i ≤ k →
    k < length (map (λ (note : Note). note.1) notes) → nat_le (get_or (map (λ (note : Note). note.1) notes) k d) scn ≡ false) →
    notes_to scn notes ≡ take i notes
notes_to-partitioned scn [] zero parts = refl
notes_to-partitioned scn [] (suc i) parts = refl
notes_to-partitioned scn (note ∷ notes) zero parts =
    let here : nat_le note.1 scn ≡ false = parts.1 0 0 (omega arith) (omega arith) in
    rw here (notes_to-partitioned scn notes zero (λ k d l h. absurd (omega arith), λ k d l h. parts.1 (suc k) d (omega arith) (omega arith)))
notes_to-partitioned scn (note ∷ notes) (suc i) parts =
    let here : nat_le note.1 scn ≡ true = parts.0 0 0 (omega arith) (omega arith) in
    rw here (ap (λ l. note ∷ l) (notes_to-partitioned scn notes i
    (λ k d l h. parts.0 (suc k) d (omega arith) (omega arith), λ k d l h. parts.1 (suc k) d (omega arith) (omega arith))))

distinct-take : (k : ℕ) (ns : List ℕ) → IsDistinct nat_eq ns → IsDistinct nat_eq (take k ns)
distinct-take k ns apart = IsDistinct-from_apart nat_eq (take k ns) (λ i j d h l.
    let few = length-take k ns in
    rw (get_or-take k ns i d (omega arith), get_or-take k ns j d (omega arith)) (apart_from_distinct nat_eq ns i j d apart h (omega arith)))

-- the row numbers of the first notes, sorted, are the stale rows
pub sorted_is_stale : (scn : ℕ) (notes : List Note) (i : ℕ) (picked rows : List ℕ) → IsDistinct nat_eq (rows_of notes) →
    IsPartitionPoint (λ s. nat_le s scn ≡ true) (λ s. nat_le s scn ≡ false) (map (λ (note : Note). note.1) notes) i → picked ≡ take i (rows_of notes) →
    IsPermutation picked rows → IsSorted nat_cmp rows → rows ≡ stale_rows_at notes scn
sorted_is_stale scn notes i picked rows apart point is moved sorted =
    let kept : rows_of (notes_to scn notes) ≡ take i (rows_of notes) = ap rows_of (notes_to-partitioned scn notes i point)
    ∙ sym (take-map (λ (note : Note). note.0) i notes) in
    let distinct : IsDistinct nat_eq picked = rw is (distinct-take i (rows_of notes) apart) in
    sorted_is_rising picked rows distinct moved sorted ∙ ap rising (is ∙ sym kept)

-- how many rows were noted
pub count_is_stale : (notes : List Note) → IsDistinct nat_eq (rows_of notes) → length notes ≡ length (stale_rows notes)
count_is_stale notes apart = sym (length-rising (rows_of notes) apart ∙ length-map notes (λ (note : Note). note.0))
