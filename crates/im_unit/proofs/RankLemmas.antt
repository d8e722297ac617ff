-- How many rows are present before a place, by ranks, and where a row stands in the columns.
use Rattle.std.proofs.Common.{◌≡◌, ℕ, zero, suc, ◌+◌, ◌-◌, ◌*◌, ◌/◌, ◌<◌, ◌≤◌, Bool, true, false, if◌then◌else◌, List, [], ◌∷◌, ◌++◌, length, take, map, min, get_or, Option, Some, None, refl, sym, ap, ◌∙◌, ⊎_elim, arith}
use Rattle.std.specs.Prelude.{is_some}
use Rattle.std.specs.List.{range_with_len}
use Rattle.std.proofs.lemmas.Bool.{cases_lt}
use Rattle.std.proofs.lemmas.List.{length-take, take_all}
use Rattle.std.proofs.lemmas.List.FromFn.{get_or-map-range_with_len, length-map-range_with_len, map-range_with_len_more}
use Rattle.std.proofs.lemmas.List.Sums.{count_by-le-length}
use Rattle.im_values.specs.declared.content.Content.{Content as Value}
use Rattle.im_history.specs.Rows.{Row}
use Rattle.im_history.specs.Units.{Content}
use Rattle.im_unit.specs.Holding.{count_present, row_of, spot_of}
use Rattle.im_unit.specs.inner.Kept.{count_set, content_kept, ranks_of, row_across, rows_across, rows_kept, spread}
use Rattle.im_unit.proofs.KeptLemmas.{before-present, length-across, set-more}
use Rattle.im_unit.proofs.UnitLemmas.{row-before, row-kept}

-- ---- ranks

-- one rank more
pub ranks-more : (flags : List Bool) (ranks longer : List ℕ) (i count : ℕ) → longer ≡ ranks ++ count ∷ [] →
    ranks ≡ map (λ j. count_set (take (j * 64) flags)) (range_with_len 0 i) → count ≡ count_set (take (i * 64) flags) →
    longer ≡ map (λ j. count_set (take (j * 64) flags)) (range_with_len 0 (i + 1))
ranks-more flags ranks longer i count more so_far is =
    let g = λ (j : ℕ). count_set (take (j * 64) flags) in
    more
    ∙ (ap (λ (l : List ℕ). l ++ count ∷ []) so_far
    ∙ (ap (λ (n : ℕ). map g (range_with_len 0 i) ++ n ∷ []) is ∙ sym (map-range_with_len_more g 0 i i (omega arith))))

-- what is set up to a place past the last one is what is set in all
pub count-least : (flags : List Bool) (len place : ℕ) → len ≡ length flags → count_set (take (min len place) flags) ≡ count_set (take place flags)
count-least flags len place is =
    ⊎_elim (λ (under : len < place). ap count_set
    (take_all (min len place) flags (omega (arith, is, under)) ∙ sym (take_all place flags (omega (arith, is, under)))))
    (λ (at : place ≤ len). let same : min len place ≡ place = omega (arith, at) in ap (λ (n : ℕ). count_set (take n flags)) same)
    (cases_lt len place)

-- no more are set before a place than there are places before it
pub count-most : (flags : List Bool) (place : ℕ) → count_set (take place flags) ≤ place
count-most flags place = omega (arith, count_by-le-length (λ (flag : Bool). flag) (take place flags), length-take place flags)

-- the rank before a place
pub rank-at : (flags : List Bool) (i d : ℕ) → i < length flags / 64 + 1 → get_or (ranks_of flags) i d ≡ count_set (take (i * 64) flags)
rank-at flags i d inside = get_or-map-range_with_len (λ (j : ℕ). count_set (take (j * 64) flags)) 0 (length flags / 64 + 1) i i d inside (omega arith)

pub length-ranks : (flags : List Bool) → length (ranks_of flags) ≡ length flags / 64 + 1
length-ranks flags = length-map-range_with_len (λ (j : ℕ). count_set (take (j * 64) flags)) 0 (length flags / 64 + 1)

-- ---- spots

-- as many of the rows up to a place are present as flags up to it are set
count-spread : (flags : List Bool) (rows : List Row) (i : ℕ) → count_set flags ≤ length rows →
    count_present (take i (spread flags rows)) ≡ count_set (take i flags)
count-spread [] rows zero few = refl
count-spread [] rows (suc i) few = refl
count-spread (false ∷ flags) rows zero few = refl
count-spread (false ∷ flags) rows (suc i) few = count-spread flags rows i few
count-spread (true ∷ flags) [] i few = absurd (omega (arith, few, set-more flags))
count-spread (true ∷ flags) (row ∷ rows) zero few = refl
count-spread (true ∷ flags) (row ∷ rows) (suc i) few =
    omega (arith, count-spread flags rows i (omega (arith, few, set-more flags)), set-more (take i flags))

pub count-kept : (flags : List Bool) (columns : List (List Value)) (i : ℕ) → count_present (take i (rows_kept flags columns)) ≡ count_set (take i flags)
unfolding rows_kept
count-kept flags columns i =
    count-spread flags (rows_across columns (count_set flags)) i (omega (arith, length-across columns (count_set flags)))

pub spot-none : (content : Content) (rid : ℕ) → None ≡ row_of content rid → None ≡ spot_of content rid
spot-none content rid none = ap (λ (row : Option Row). if is_some row then Some (count_present (take (rid - content.first) content.rows)) else None) none

-- a row that is present stands behind those that are present before it
pub spot-kept : (scn first width : ℕ) (flags : List Bool) (columns : List (List Value)) (rid : ℕ) → first ≤ rid →
    true ≡ get_or flags (rid - first) false →
    Some (count_set (take (rid - first) flags)) ≡ spot_of (content_kept scn first width flags columns) rid
spot-kept scn first width flags columns rid from is =
    let content = content_kept scn first width flags columns in
    let row = row-kept scn first width flags columns rid true from is in
    ap Some (sym (count-kept flags columns (rid - first)))
    ∙ ap (λ (row : Option Row). if is_some row then Some (count_present (take (rid - content.first) content.rows)) else None) row

-- the row of a spot
pub record IsAtSpot (count : ℕ) (columns : List (List Value)) (content : Content) (rid spot : ℕ) : Type 0 where
  pub inside : spot < count
  pub row : Some (row_across columns spot) ≡ row_of content rid

pub at-spot : (scn first width : ℕ) (flags : List Bool) (columns : List (List Value)) (rid spot : ℕ) →
    Some spot ≡ spot_of (content_kept scn first width flags columns) rid → IsAtSpot (count_set flags) columns (content_kept scn first width flags columns) rid spot
at-spot scn first width flags columns rid spot is =
    ⊎_elim
    (λ (before : rid < first). let none = spot-none content rid (row-before content rid before) in absurd cc)
    (λ (from : first ≤ rid). by from (get_or flags (rid - first) false) refl)
    (cases_lt rid first)
  where
    content : Content
    content = content_kept scn first width flags columns

    by : first ≤ rid → (b : Bool) → b ≡ get_or flags (rid - first) false → IsAtSpot (count_set flags) columns content rid spot
    by from false e = let none = spot-none content rid (row-kept scn first width flags columns rid false from e) in absurd cc
    by from true e =
        let there = spot-kept scn first width flags columns rid from e in
        let same : spot ≡ count_set (take (rid - first) flags) = cc in
        record {
          inside = omega (arith, same, before-present flags (rid - first) (sym e));
          row = ap (λ (n : ℕ). Some (row_across columns n)) same ∙ row-kept scn first width flags columns rid true from e;
        }

pub no-spot : (content : Content) (rid : ℕ) → None ≡ spot_of content rid → None ≡ row_of content rid
no-spot content rid none = by (row_of content rid) none
  where
    by : (row : Option Row) → None ≡ (if is_some row then Some (count_present (take (rid - content.first) content.rows)) else None) → None ≡ row
    by None e = refl
    by (Some row) e = absurd cc
