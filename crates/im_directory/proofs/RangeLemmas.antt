-- The row numbers of one extent, and what is done to an extent of a table that has none.
use Rattle.std.proofs.Common.{◌≡◌, ℕ, ◌+◌, ◌-◌, ◌*◌, ◌/◌, ◌%◌, ◌≤◌, ◌<◌, List, [], ◌∷◌, length, None, refl, sym, ap, ◌∙◌, arith}
use Rattle.std.specs.List.{slice_get}
use Rattle.std.proofs.lemmas.Nat.{div-add-mod', div-mul-add}
use Rattle.im_history.specs.declared.change.Change.{Change}
use Rattle.im_history.specs.declared.look.TableInfo.{TableInfo}
use Rattle.im_history.specs.Grid.{per_extent}
use Rattle.im_history.specs.Tables.{table_among}
use Rattle.im_history.specs.Views.{grid_of}
use Rattle.im_tables.specs.Table.{row_of}
use Rattle.im_directory.specs.declared.range.ExtentRange.{ExtentRange}
use Rattle.im_directory.specs.Slots.{Slot}
use Rattle.im_directory.specs.Effects.{extent_in}
use Rattle.im_directory.specs.Steps.{IsFor, IsRange, IsWithin}
use Rattle.im_directory.proofs.SlotLemmas.{slot_at-none, slots_with-none}

-- a range of no row number is of any extent
pub IsRange_none : (tables : List TableInfo) (range : ExtentRange) → range.count ≡ 0 → IsRange tables range
IsRange_none tables range none = record { each = λ rid first below. absurd (omega (arith, none, first, below)) }

-- row numbers with the same quotient
same_quotient : (rid other per : ℕ) → 1 ≤ per → rid - rid % per ≤ other → other < rid - rid % per + per → other / per ≡ rid / per
same_quotient rid other per some first below =
    let whole : rid / per * per + rid % per ≡ rid = div-add-mod' rid per in
    let from : rid - rid % per ≡ rid / per * per = omega (arith, whole) in
    let rest : rid / per * per + (other - rid / per * per) ≡ other = omega (arith, from, first) in
    sym (ap (λ (k : ℕ). k / per) rest) ∙ div-mul-add (rid / per) per (other - rid / per * per) (omega (arith, from, first, below))

pub IsRange-of : (tables : List TableInfo) (change : Change) (range : ExtentRange) → range.table ≡ change.table → range.extent ≡ extent_in tables change →
    range.count ≡ per_extent (grid_of (table_among tables change.table)) → range.first ≡ change.rid - change.rid % range.count → 1 ≤ range.count →
    IsRange tables range
IsRange-of tables change range table extent count first some = record {
  each = λ rid from below.
      rw (table, extent, ← count) (same_quotient change.rid rid range.count some (rw first at from) (rw first at below));
}

-- the row of a change within a range is in the extent of the range
pub extent_in-range : (tables : List TableInfo) (range : ExtentRange) (change : Change) → IsRange tables range → IsWithin range change →
    range.extent ≡ extent_in tables change
extent_in-range tables range change is within =
    sym (is.each change.rid within.first within.below) ∙ ap (λ (k : ℕ). change.rid / per_extent (grid_of (table_among tables k))) (sym within.same)

none_in : {X : Type 0} (xs : List X) (k : ℕ) → length xs ≡ 0 → slice_get xs k ≡ None
none_in [] k none = refl
none_in (x ∷ xs) k none = absurd (omega (arith, none))

module _ {U : Type 0} where
  pub IsFor-same : (slots : List (List (Slot U))) (tables : List TableInfo) (change : Change) (extent : ℕ) → extent ≡ extent_in tables change →
      IsFor slots tables change extent
  IsFor-same slots tables change extent same = rw same (record { slot = refl; changed = λ f. refl })

  pub IsFor-none : (slots : List (List (Slot U))) (tables : List TableInfo) (change : Change) (extent : ℕ) → length (row_of slots change.table) ≡ 0 →
      IsFor slots tables change extent
  IsFor-none slots tables change extent none =
      let nowhere = λ (k : ℕ). none_in (row_of slots change.table) k none in
      record {
        slot = sym (slot_at-none slots change.table extent (nowhere extent))
            ∙ slot_at-none slots change.table (extent_in tables change) (nowhere (extent_in tables change));
        changed = λ f. sym (slots_with-none f slots change.table extent (nowhere extent))
            ∙ slots_with-none f slots change.table (extent_in tables change) (nowhere (extent_in tables change));
      }
