-- Rows at row numbers of their own that are gathered behind what was read before.
use Rattle.std.proofs.Common.{◌≡◌, ℕ, suc, ◌+◌, ◌*◌, List, [], ◌∷◌, ◌++◌, ◌≤◌, length, Option, Some, sym, ap, ◌∙◌, arith, append_assoc}
use Rattle.std.proofs.lemmas.List.{append-nil, length-append, nil_from_length, take_all}
use Rattle.im_values.specs.Stretches.{cut}
use Rattle.im_values.specs.declared.content.Content.{Content as Value}
use Rattle.im_values.proofs.ForCallers.{cut-push}
use Rattle.im_history.specs.Fetched.{each_at}
use Rattle.im_history.proofs.FetchedLaws.{each_at-push}
use Rattle.im_blocks.specs.declared.scattered.Scattered.{Scattered}
use Rattle.im_blocks.specs.inner.Scattering.{AreWhole, IsEmptied, IsWide, Scatters, scattered}
use Rattle.im_blocks.proofs.GatherLemmas.{length-cut}

abbrev Read : Type 0
Read = List (ℕ × Option (List Value))

-- where no row is gathered, all was fetched
none-scattered : (fetched : Read) (rids : List ℕ) (width : ℕ) (values : List Value) → rids ≡ []
    → fetched ++ each_at rids (cut (length rids) width values) ≡ fetched
none-scattered fetched rids width values none =
    ap (λ (l : List ℕ). fetched ++ each_at l (cut (length l) width values)) none ∙ append-nil fetched

-- for no row there are no values
no-values : (rids : List ℕ) (width : ℕ) (values : List Value) → length values ≡ length rids * width → rids ≡ [] → values ≡ []
no-values rids width values long none = nil_from_length values (long ∙ (ap (λ (l : List ℕ). length l * width) none ∙ omega arith))

pub IsEmptied-none : (s : Scattered) → AreWhole s → s.rids.items ≡ [] → IsEmptied s s
IsEmptied-none s whole none = record {
  fetched_is = sym (none-scattered s.fetched s.rids.items s.width s.values.items none);
  none = none;
  empty = no-values s.rids.items s.width s.values.items whole none;
}

-- a row alone
pub scattered-one : (s : Scattered) (rid : ℕ) (new : Read) → AreWhole s → s.rids.items ≡ rid ∷ []
    → new ≡ s.fetched ++ (rid, Some s.values.items) ∷ [] → new ≡ scattered s
scattered-one s rid new whole one is =
    is
    ∙ (ap (λ (row : List Value). s.fetched ++ (rid, Some row) ∷ []) (sym (take_all s.width s.values.items (wide s rid whole one)))
    ∙ ap (λ (l : List ℕ). s.fetched ++ each_at l (cut (length l) s.width s.values.items)) (sym one))
  where
    wide : (s : Scattered) (rid : ℕ) → AreWhole s → s.rids.items ≡ rid ∷ [] → length s.values.items ≤ s.width
    wide s rid whole one =
        let long : length s.values.items ≡ 1 * s.width = whole ∙ ap (λ (l : List ℕ). length l * s.width) one in
        omega (arith, long)

-- what was read once nothing is gathered any more
pub Scatters-emptied : (old mid new : Scattered) (more : Read) → IsEmptied old mid → new.fetched ≡ mid.fetched ++ more
    → new.rids.items ≡ mid.rids.items → new.values.items ≡ mid.values.items → Scatters old new more
Scatters-emptied old mid new more emptied is rids_is values_is =
    let none : new.rids.items ≡ [] = rids_is ∙ emptied.none in
    record {
      rows = none-scattered new.fetched new.rids.items new.width new.values.items none
          ∙ (is ∙ ap (λ (l : Read). l ++ more) emptied.fetched_is);
      whole = ap length (values_is ∙ emptied.empty) ∙ (omega arith ∙ ap (λ (l : List ℕ). length l * new.width) (sym none));
    }

-- rows of other widths begin a block
pub IsWide-anew : (old mid new : Scattered) (width : ℕ) → IsEmptied old mid → new.fetched ≡ mid.fetched → new.width ≡ width
    → new.rids.items ≡ mid.rids.items → new.values.items ≡ mid.values.items → IsWide old new width
IsWide-anew old mid new width emptied is width_is rids_is values_is =
    let none : new.rids.items ≡ [] = rids_is ∙ emptied.none in
    record {
      rows = none-scattered new.fetched new.rids.items new.width new.values.items none ∙ (is ∙ emptied.fetched_is);
      whole = ap length (values_is ∙ emptied.empty) ∙ (omega arith ∙ ap (λ (l : List ℕ). length l * new.width) (sym none));
      width_is = width_is;
    }

-- one row more in the block
pub Scatters-put : (old new : Scattered) (rid : ℕ) (row : List Value) → AreWhole old → old.width ≡ length row
    → new.fetched ≡ old.fetched → new.width ≡ old.width → new.rids.items ≡ old.rids.items ++ rid ∷ []
    → new.values.items ≡ old.values.items ++ row → Scatters old new ((rid, Some row) ∷ [])
Scatters-put old new rid row whole wide fetched_is width_is rids_is values_is =
    let rids = old.rids.items in
    let rows = cut (length rids) old.width old.values.items in
    let more : length new.rids.items ≡ suc (length rids) = ap length rids_is ∙ (length-append rids (rid ∷ []) ∙ omega arith) in
    let next : cut (length new.rids.items) new.width new.values.items ≡ rows ++ row ∷ [] =
    ap (λ (n : ℕ). cut n new.width new.values.items) more
    ∙ (ap (λ (n : ℕ). cut (suc (length rids)) n new.values.items) width_is
    ∙ (ap (λ (l : List Value). cut (suc (length rids)) old.width l) values_is
    ∙ cut-push (length rids) old.width old.values.items row whole (sym wide))) in
    let long : length rids ≡ length rows = sym (length-cut (length rids) old.width old.values.items) in
    record {
      rows = ap (λ (l : Read). l ++ each_at new.rids.items (cut (length new.rids.items) new.width new.values.items)) fetched_is
          ∙ (ap (λ (l : List ℕ). old.fetched ++ each_at l (cut (length new.rids.items) new.width new.values.items)) rids_is
          ∙ (ap (λ (l : List (List Value)). old.fetched ++ each_at (rids ++ rid ∷ []) l) next
          ∙ (ap (λ (l : Read). old.fetched ++ l) (each_at-push rids rows rid row long)
          ∙ sym (append_assoc old.fetched (each_at rids rows) ((rid, Some row) ∷ [])))));
      whole = longer more;
    }
  where
    longer : length new.rids.items ≡ suc (length old.rids.items) → length new.values.items ≡ length new.rids.items * new.width
    longer more =
        let sum : length new.values.items ≡ length old.values.items + length row = ap length values_is ∙ length-append old.values.items row in
        let product : length new.rids.items * new.width ≡ (length old.rids.items + 1) * old.width =
        ap (λ (n : ℕ). n * new.width) (more ∙ omega arith) ∙ ap (λ (n : ℕ). (length old.rids.items + 1) * n) width_is in
        let all : (length old.rids.items + 1) * old.width ≡ length old.rids.items * old.width + old.width = grind arith in
        omega (arith, sum, whole, product, all, wide)

-- a row behind those for which it was made wide
pub Scatters-row : (old mid new : Scattered) (rid : ℕ) (row : List Value) → IsWide old mid (length row)
    → Scatters mid new ((rid, Some row) ∷ []) → Scatters old new ((rid, Some row) ∷ [])
Scatters-row old mid new rid row wide put = record {
  rows = put.rows ∙ ap (λ (l : Read). l ++ (rid, Some row) ∷ []) wide.rows;
  whole = put.whole;
}
