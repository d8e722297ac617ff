-- What a part is made of.
use Rattle.std.proofs.Common.{◌≡◌, ℕ, ◌+◌, ◌*◌, ◌<◌, ◌≤◌, ◌^◌, List, [], ◌∷◌, length, Option, None, Some, sym, ap, subst, ◌∙◌, arith}
use Rattle.std.specs.List.{AllByRecursion}
use Rattle.im_syntax.specs.declared.bound.Bound.{Bound}
use Rattle.im_history.specs.declared.view.View.{View}
use Rattle.im_history.specs.Grid.{extents_for}
use Rattle.im_history.specs.Rows.{Row, present}
use Rattle.im_history.specs.Units.{Content}
use Rattle.im_history.proofs.GridLaws.{first_within}
use Rattle.im_group.specs.Partials.{Parts, partial, IsPartOfFew}
use Rattle.im_scan.specs.Parts.{MayAsk, row_in_unit}
use Rattle.im_scan.specs.inner.Steps.{IsUnchanged, MayScan, gathered, laid_row, numbered_from, unit_rows, with_fetched}
use Rattle.im_scan.specs.declared.faces.Face.{Face}
use Rattle.im_scan.specs.Faces.{unit_of}
use Rattle.std.proofs.lemmas.List.FromFn.{length-map-range_with_len}
use Rattle.im_scan.proofs.SlotLemmas.{are_taken, own-none, gathered-present, length-with_fetched}
use Rattle.im_scan.proofs.FitLemmas.{slots-fit}
use Rattle.im_scan.specs.inner.Beside.{AreBeside, Beside}
use Rattle.im_scan.specs.inner.Walk.{standing}
use Rattle.im_scan.proofs.PinLemmas.{present-same}

-- an extent of a view, whose row numbers are cut into extents, begins at a row number of it
pub begins : (view : View) (extent : ℕ) → view.extents ≡ extents_for view.rows view.per → extent < view.extents
    → extent * view.per < view.rows
begins view extent cut within = first_within view.rows view.per extent (rw cut at within)

module _ (unit : Option Content) (fetched : List (ℕ × Option Row)) (view : View) (first count : ℕ) where
  -- these slots were gathered
  pub record AreGathered (slots : List (Option Row)) : Type 0 where
    pub is : slots ≡ gathered unit fetched view first count

  pub slots-within : (slots : List (Option Row)) → AreGathered slots → first + count < 2 ^ 64
      → first + length slots < 2 ^ 64
  slots-within slots are within =
      let long : length slots ≡ count = ap length are.is ∙ (are_taken unit fetched view first count).long in
      omega (arith, within, long)

  pub slots-may : (bound : Bound) (slots : List (Option Row)) → AreGathered slots → MayScan bound unit fetched view.own
      → AllByRecursion (MayAsk bound) slots
  slots-may bound slots are may =
      subst (AllByRecursion (MayAsk bound)) (sym are.is)
      (slots-fit bound unit fetched view first count (gathered unit fetched view first count) may (are_taken unit fetched view first count))

  -- the part of these slots is that of the rows that a scan takes
  pub slots-part : (bound : Bound) (slots : List (Option Row)) → AreGathered slots
      → partial bound (numbered_from first slots) ≡ partial bound (present (laid_row unit fetched view) first count)
  slots-part bound slots are =
      ap (partial bound) (ap (numbered_from first) are.is ∙ gathered-present unit fetched view first count)

-- of so many slots no more are numbered
pub few-numbered : (first : ℕ) (slots : List (Option Row)) → length (numbered_from first slots) ≤ length slots
few-numbered first [] = omega arith
few-numbered first (None ∷ slots) = let less = few-numbered (first + 1) slots in omega (arith, less)
few-numbered first (Some row ∷ slots) = let less = few-numbered (first + 1) slots in omega (arith, less)

pub few-taken : (bound : Bound) (first i : ℕ) (slots : List (Option Row)) (part : Parts) → part ≡ partial bound (numbered_from first slots)
    → length slots ≤ i → i + 1 < 2 ^ 64 → IsPartOfFew bound part
few-taken bound first i slots part is less few = record {
  rows = numbered_from first slots;
  is = is;
  few = let all = few-numbered first slots in omega (arith, all, less, few);
}

-- where the view changed none of these row numbers and there is no unit, what was fetched is all
pub fetched-part : (bound : Bound) (face : Face) (fetched : List (ℕ × Option Row)) (view : View) (first count : ℕ)
    → unit_of face ≡ None → length fetched ≡ count
    → IsUnchanged view first count
    → partial bound (numbered_from first (with_fetched first (unit_rows None first (length fetched)) fetched))
    ≡ partial bound (present (laid_row (unit_of face) fetched view) first count)
fetched-part bound face fetched view first count bare same none =
    ap (partial bound)
    (ap (λ (n : ℕ). numbered_from first (with_fetched first (unit_rows None first n) fetched)) same
    ∙ (ap (numbered_from first) (sym (own-none view first count slots none long))
    ∙ (gathered-present None fetched view first count
    ∙ ap (λ (u : Option Content). present (laid_row u fetched view) first count) (sym bare))))
  where
    slots : List (Option Row)
    slots = with_fetched first (unit_rows None first count) fetched

    long : length slots ≡ count
    long = length-with_fetched first (unit_rows None first count) fetched ∙ length-map-range_with_len (row_in_unit None) first count

-- what stands at the row numbers with the rows beside the unit is what a scan takes there
pub beside-part : (unit : Option Content) (fetched : Beside) (view : View) (first count : ℕ) (rows : Beside) → AreBeside fetched view first count rows →
    present (standing unit rows) first count ≡ present (laid_row unit fetched view) first count
beside-part unit fetched view first count rows are =
    present-same (standing unit rows) (laid_row unit fetched view) first count (λ rid from below. are.at rid from below (row_in_unit unit rid))
