-- The bytes that all units take, as a history says them.
use Rattle.std.proofs.Common.{◌≡◌, ℕ, suc, ◌≤◌, List, [], length, sum_by, Option, Some, None, refl, sym, ap, ◌∙◌, arith}
use Rattle.std.specs.List.{range_with_len}
use Rattle.std.specs.Option.{option_map}
use Rattle.std.proofs.lemmas.List.{get_or_past}
use Rattle.std.proofs.lemmas.List.Sums.{sum_by-cons}
use Rattle.im_history.specs.Area.{content_bytes, extent_bytes, used}
use Rattle.im_history.specs.Contents.{unit_bytes}
use Rattle.im_history.specs.Extents.{AreOfExtents, IsExtent, all_extents, extents_of, table_extents}
use Rattle.im_history.specs.History.{History}
use Rattle.im_history.specs.Tables.{tables}
use Rattle.im_history.specs.Units.{Content, content_at, unit}
use Rattle.im_tables.specs.Table.{cell_at, row_of}
use Rattle.im_tables.proofs.ForCallers.{cell_at-past}
use Rattle.im_directory.specs.Agrees.{Agrees, scn_of}
use Rattle.im_directory.specs.Lists.{current_bytes, used_in}
use Rattle.im_directory.specs.declared.journals.Current.{Current}
use Rattle.im_directory.specs.Slots.{Kept, Slot, nothing, slot_at, stock, told_at}
use Rattle.im_directory.proofs.SumLaws.{sum-ends, sum-flat, sum-mapped, sum-places, sum-same}

-- the bytes of the unit of an extent
abbrev bytes_at : History → ℕ → ℕ → ℕ
bytes_at h table extent = extent_bytes h (record { table = table; number = extent })

-- the bytes of so many extents of a table
abbrev bytes_of : History → ℕ → ℕ → ℕ
bytes_of h table count = sum_by (bytes_at h table) (range_with_len 0 count)

-- ---- the history's

-- the bytes of all extents, table by table
used-tables : (h : History) → used h ≡ sum_by (λ table. bytes_of h table (extents_of h table)) (range_with_len 1 (length (tables h)))
unfolding used all_extents
used-tables h =
    sum-flat (extent_bytes h) (table_extents h) (range_with_len 1 (length (tables h)))
    ∙ sum-same (λ table. sum_by (extent_bytes h) (table_extents h table)) (λ table. bytes_of h table (extents_of h table))
    (range_with_len 1 (length (tables h)))
    (λ table. sum-mapped (extent_bytes h) (λ (number : ℕ). record { table = table; number = number }) (range_with_len 0 (extents_of h table)))

none_there : (h : History) (table extent : ℕ) (found : Option ℕ) → AreOfExtents h → unit h table extent ≡ found → (IsExtent h table extent → ⊥) →
    bytes_at h table extent ≡ 0
none_there h table extent None of is out = ap (λ (o : Option ℕ). content_bytes (option_map (content_at h table extent) o)) is
none_there h table extent (Some at) of is out = absurd (out (of.each table extent at is))

-- where there is no extent there is no unit
bytes_past : (h : History) (table extent : ℕ) → AreOfExtents h → (IsExtent h table extent → ⊥) → bytes_at h table extent ≡ 0
bytes_past h table extent of out = none_there h table extent (unit h table extent) of refl out

module _ {U : Type 0} (content : U → Content) where
  -- ---- one extent

  -- a unit counts for what the history's does
  cell_by : (h : History) (kept : Kept U) (table extent : ℕ) (current : Option (Current U)) → Agrees content h kept →
      (slot_at kept.slots table extent).current ≡ current → current_bytes content current ≡ bytes_at h table extent
  cell_by h kept table extent None agrees is =
      let none : scn_of content (told_at kept table extent).current ≡ None = ap (λ (o : Option (Current U)). scn_of content (option_map stock o)) is in
      sym (ap (λ (o : Option ℕ). content_bytes (option_map (content_at h table extent) o)) (sym (agrees.units table extent) ∙ none))
  cell_by h kept table extent (Some current) agrees is =
      let found : (told_at kept table extent).current ≡ Some (stock current) = ap (λ (o : Option (Current U)). option_map stock o) is in
      let unit_is : unit h table extent ≡ Some (content current.unit.value).scn =
      sym (agrees.units table extent) ∙ ap (scn_of content) found in
      ap unit_bytes (agrees.stock table extent (stock current) found).holds
      ∙ sym (ap (λ (o : Option ℕ). content_bytes (option_map (content_at h table extent) o)) unit_is)

  cell_bytes : (h : History) (kept : Kept U) (table extent : ℕ) → Agrees content h kept →
      current_bytes content (slot_at kept.slots table extent).current ≡ bytes_at h table extent
  cell_bytes h kept table extent agrees = cell_by h kept table extent (slot_at kept.slots table extent).current agrees refl

  -- past the end of a table nothing is counted
  row_past : (h : History) (kept : Kept U) (table extent : ℕ) → Agrees content h kept → length (row_of kept.slots table) ≤ extent →
      bytes_at h table extent ≡ 0
  row_past h kept table extent agrees past =
      sym (cell_bytes h kept table extent agrees)
      ∙ ap (λ (slot : Slot U). current_bytes content slot.current) (cell_at-past nothing kept.slots table extent past)

  -- ---- a table

  -- the bytes of the extents that are kept of a table
  abbrev row_bytes : List (Slot U) → ℕ
  row_bytes row = sum_by (λ slot. current_bytes content slot.current) row

  row_by : (h : History) (kept : Kept U) (table : ℕ) → Agrees content h kept →
      row_bytes (row_of kept.slots table) ≡ bytes_of h table (length (row_of kept.slots table))
  unfolding cell_at
  row_by h kept table agrees =
      sum-places (λ (slot : Slot U). current_bytes content slot.current) (bytes_at h table) (row_of kept.slots table) nothing
      (λ extent. cell_bytes h kept table extent agrees)

  row_same : (h : History) (kept : Kept U) (table : ℕ) → Agrees content h kept → AreOfExtents h →
      row_bytes (row_of kept.slots table) ≡ bytes_of h table (extents_of h table)
  row_same h kept table agrees of =
      row_by h kept table agrees
      ∙ sum-ends (bytes_at h table) (length (row_of kept.slots table)) (extents_of h table)
      (λ extent past. row_past h kept table extent agrees past)
      (λ extent past. bytes_past h table extent of (λ is. let within = is.within in omega (arith, past, within)))

  -- ---- all tables

  -- past the last table that is kept nothing is counted
  tables_past : (h : History) (kept : Kept U) (table : ℕ) → Agrees content h kept → AreOfExtents h → length kept.slots ≤ table →
      bytes_of h table (extents_of h table) ≡ 0
  tables_past h kept table agrees of past = sym (row_same h kept table agrees of) ∙ ap row_bytes (get_or_past kept.slots table [] past)

  -- all units take what the history says
  pub used-by : (h : History) (kept : Kept U) → Agrees content h kept → AreOfExtents h → used_in content kept.slots ≡ used h
  used-by h kept agrees of =
      let whole : ℕ → ℕ = λ table. bytes_of h table (extents_of h table) in
      let last : ℕ = length (tables h) in
      let none : (table : ℕ) → ((extent : ℕ) → IsExtent h table extent → ⊥) → whole table ≡ 0 =
      λ table out. sum-ends (bytes_at h table) (extents_of h table) 0
      (λ extent past. bytes_past h table extent of (out extent)) (λ extent past. bytes_past h table extent of (out extent)) in
      let kept_is : used_in content kept.slots ≡ sum_by whole (range_with_len 0 (length kept.slots)) =
      sum-places row_bytes whole kept.slots [] (λ table. row_same h kept table agrees of) in
      let ends : sum_by whole (range_with_len 0 (length kept.slots)) ≡ sum_by whole (range_with_len 0 (suc last)) =
      sum-ends whole (length kept.slots) (suc last) (λ table past. tables_past h kept table agrees of past)
      (λ table past. none table (λ extent is. let within = is.last in omega (arith, past, within))) in
      let first : whole 0 ≡ 0 = none 0 (λ extent is. let some = is.first in omega (arith, some)) in
      let split = sum_by-cons whole 0 (range_with_len 1 last) in
      omega (arith, kept_is, ends, first, split, used-tables h)
