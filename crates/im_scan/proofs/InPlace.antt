-- Rows that were fetched in place: of each row number from the first on, in order.
use Rattle.std.proofs.Common.{◌≡◌, ℕ, zero, suc, ◌+◌, ◌<◌, ◌==◌, Bool, true, false, if◌then◌else◌, List, [], ◌∷◌, length, drop, get_or, map, Option, None, refl, sym, ap, ◌∙◌, arith}
use Rattle.std.specs.List.{fold, range_with_len}
use Rattle.std.proofs.lemmas.Bool.Decides.{nat_tests}
use Rattle.std.proofs.lemmas.List.{length-map}
use Rattle.std.proofs.lemmas.List.FromFn.{length-map-range_with_len}
use Rattle.im_history.specs.Rows.{Row}
use Rattle.im_scan.specs.Parts.{row_in_unit, fetched_after}
use Rattle.im_scan.specs.inner.Steps.{unit_rows, with_fetched}
use Rattle.im_scan.proofs.SlotLemmas.{length-with_fetched, at-with_fetched}

abbrev pub numbers_of : List (ℕ × Option Row) → List ℕ
numbers_of fetched = map (λ row. row.0) fetched

abbrev pub rows_of : List (ℕ × Option Row) → List (Option Row)
rows_of fetched = map (λ row. row.1) fetched

pub first-of : (n m : ℕ) (ns ms : List ℕ) → ◌≡◌ {A = List ℕ} (n ∷ ns) (m ∷ ms) → n ≡ m
first-of n m ns ms same = ap (λ (l : List ℕ). get_or l 0 0) same

pub others-of : (n m : ℕ) (ns ms : List ℕ) → ◌≡◌ {A = List ℕ} (n ∷ ns) (m ∷ ms) → ns ≡ ms
others-of n m ns ms same = ap (λ (l : List ℕ). drop 1 l) same

-- rows of later numbers leave a row as it is
later : (fetched : List (ℕ × Option Row)) (first rid : ℕ) (row : Option Row)
    → numbers_of fetched ≡ range_with_len first (length fetched) → rid < first → fold (fetched_after rid) row fetched ≡ row
later [] first rid row are below = refl
later (f ∷ fetched) first rid row are below =
    let here : f.0 ≡ first = first-of f.0 first (numbers_of fetched) (range_with_len (first + 1) (length fetched)) are in
    let other : (f.0 == rid) ≡ false = grind (arith, nat_tests, here, below) in
    ap (λ (b : Bool). fold (fetched_after rid) (if b then f.1 else row) fetched) other
    ∙ later fetched (first + 1) rid row (others-of f.0 first (numbers_of fetched) (range_with_len (first + 1) (length fetched)) are)
    (omega (arith, below))

pub found : (fetched : List (ℕ × Option Row)) (first i : ℕ) (row : Option Row)
    → numbers_of fetched ≡ range_with_len first (length fetched) → i < length fetched
    → fold (fetched_after (first + i)) row fetched ≡ get_or (rows_of fetched) i None
found [] first i row are within = absurd (omega (arith, within))
found (f ∷ fetched) first zero row are within =
    let here : f.0 ≡ first = first-of f.0 first (numbers_of fetched) (range_with_len (first + 1) (length fetched)) are in
    let same : (f.0 == (first + 0)) ≡ true = grind (arith, nat_tests, here) in
    ap (λ (b : Bool). fold (fetched_after (first + 0)) (if b then f.1 else row) fetched) same
    ∙ later fetched (first + 1) (first + 0) f.1
    (others-of f.0 first (numbers_of fetched) (range_with_len (first + 1) (length fetched)) are) (omega arith)
found (f ∷ fetched) first (suc i) row are within =
    let next : first + suc i ≡ first + 1 + i = omega arith in
    ap (λ (n : ℕ). fold (fetched_after n) (fetched_after n row f) fetched) next
    ∙ found fetched (first + 1) i (fetched_after (first + 1 + i) row f)
    (others-of f.0 first (numbers_of fetched) (range_with_len (first + 1) (length fetched)) are) (omega (arith, within))

same-lists : (xs ys : List (Option Row)) → length xs ≡ length ys
    → ((i : ℕ) → i < length xs → get_or xs i None ≡ get_or ys i None) → xs ≡ ys
same-lists [] [] long at = refl
same-lists [] (y ∷ ys) long at = absurd (omega (arith, long))
same-lists (x ∷ xs) [] long at = absurd (omega (arith, long))
same-lists (x ∷ xs) (y ∷ ys) long at =
    ap (λ (z : Option Row). z ∷ xs) (at 0 (omega arith))
    ∙ ap (λ (l : List (Option Row)). y ∷ l)
    (same-lists xs ys (omega (arith, long)) (λ i within. at (suc i) (omega (arith, within))))

-- nothing need be laid below rows that were fetched in place
pub in-place : (first : ℕ) (fetched : List (ℕ × Option Row)) → numbers_of fetched ≡ range_with_len first (length fetched)
    → rows_of fetched ≡ with_fetched first (unit_rows None first (length fetched)) fetched
in-place first fetched numbers =
    same-lists (rows_of fetched) (with_fetched first shown fetched) long
    (λ i within.
    let inside : i < length fetched = omega (arith, within, length-map fetched (λ row. row.1)) in
    sym (at-with_fetched first shown fetched i (omega (arith, inside, shown_long))
    ∙ found fetched first i (get_or shown i None) numbers inside))
  where
    shown : List (Option Row)
    shown = unit_rows None first (length fetched)

    shown_long : length shown ≡ length fetched
    shown_long = length-map-range_with_len (row_in_unit None) first (length fetched)

    long : length (rows_of fetched) ≡ length (with_fetched first shown fetched)
    long = length-map fetched (λ row. row.1) ∙ sym (length-with_fetched first shown fetched ∙ shown_long)
