-- Extents that wait no more, one after another.
use Rattle.std.proofs.Common.{◌≡◌, ℕ, ◌+◌, ◌≤◌, ◌<◌, inr, Bool, true, false, ◌==◌, ◌&&◌, List, [], count_by, set, if◌then◌else◌, refl, sym, ap, subst, ◌∙◌, ⊎_elim, arith}
use Rattle.std.proofs.lemmas.Bool.{cases_eq, cases_lt, false≢true}
use Rattle.std.proofs.lemmas.Grind.{get_or-set_at}
use Rattle.std.proofs.lemmas.List.Sums.{sum_by-set}
use Rattle.im_tables.specs.Table.{HasCell, cell_at, row_of}
use Rattle.im_tables.proofs.ForCallers.{HasCell-where, HasCell-with_cell, table_of}
use Rattle.im_directory.specs.Slots.{Slot, nothing, slot_at}
use Rattle.im_directory.specs.Steps.{AreRested, slot_rested, slots_with}
use Rattle.im_directory.specs.inner.Listed.{NoneWaits, RestsSome}
use Rattle.im_directory.proofs.SlotLemmas.{slot_at-changed}

module _ {U : Type 0} where
  -- how many extents of a table wait
  abbrev pub count_waiting : List (List (Slot U)) → ℕ → ℕ
  count_waiting slots table = count_by (λ (slot : Slot U). slot.waits) (row_of slots table)

  HasCell-waiting : (slots : List (List (Slot U))) (table extent : ℕ) → (slot_at slots table extent).waits ≡ true → HasCell slots table extent
  HasCell-waiting slots table extent is =
      HasCell-where nothing slots table extent
      (λ (none : slot_at slots table extent ≡ nothing). false≢true (sym (ap (λ (s : Slot U). s.waits) none) ∙ is))

  -- one that waited waits no more
  count_rested : (slots : List (List (Slot U))) (table extent : ℕ) → (slot_at slots table extent).waits ≡ true →
      count_waiting (slots_with slot_rested table extent slots) table < count_waiting slots table
  unfolding cell_at
  count_rested slots table extent is =
      let has = HasCell-waiting slots table extent is in
      let now : Slot U = slot_rested (slot_at slots table extent) in
      let row : List (Slot U) = set (row_of slots table) extent now in
      let inside = table_of slots table extent has in
      let same = ap (λ (l : List (Slot U)). count_by (λ (s : Slot U). s.waits) l) (get_or-set_at slots table table row [] refl inside) in
      let moved = sum_by-set (λ (s : Slot U). if s.waits then 1 else 0) (row_of slots table) extent now nothing has.below in
      let one : ◌≡◌ {A = ℕ} (if (slot_at slots table extent).waits then 1 else 0) 1 = ap (λ (b : Bool). if b then 1 else 0) is in
      omega (arith, same, moved, one)

  pub count_waiting-falls : (old new : List (List (Slot U))) (table extent : ℕ) → (slot_at old table extent).waits ≡ true →
      new ≡ slots_with slot_rested table extent old → count_waiting new table < count_waiting old table
  count_waiting-falls old new table extent is changed =
      subst (λ (s : List (List (Slot U))). count_waiting s table < count_waiting old table) (sym changed) (count_rested old table extent is)

  rested_twice : (b : Bool) (x : Slot U) → slot_rested (if b then slot_rested x else x) ≡ slot_rested x
  rested_twice true x = refl
  rested_twice false x = refl

  rested_still : (b : Bool) (x : Slot U) → x.waits ≡ false → (if b then slot_rested x else x).waits ≡ false
  rested_still true x off = refl
  rested_still false x off = off

  pub RestsSome-none : (slots : List (List (Slot U))) → RestsSome slots slots
  RestsSome-none slots = record { same = λ t e. refl; less = λ t e off. off; room = λ t e has. has }

  pub RestsSome-trans : (a b c : List (List (Slot U))) → RestsSome a b → RestsSome b c → RestsSome a c
  RestsSome-trans a b c ab bc = record {
    same = λ t e. bc.same t e ∙ ab.same t e;
    less = λ t e off. bc.less t e (ab.less t e off);
    room = λ t e has. bc.room t e (ab.room t e has);
  }

  -- one extent more
  pub RestsSome-one : (old now next : List (List (Slot U))) (table extent : ℕ) → RestsSome old now → next ≡ slots_with slot_rested table extent now →
      RestsSome old next
  RestsSome-one old now next table extent rests changed =
      let each = λ (t e : ℕ).
      ap (λ (s : List (List (Slot U))). slot_at s t e) changed ∙ slot_at-changed slot_rested now table extent t e (inr refl) in
      RestsSome-trans old now next rests (record {
        same = λ t e. ap slot_rested (each t e) ∙ rested_twice ((table == t) && (extent == e)) (slot_at now t e);
        less = λ t e off. ap (λ (s : Slot U). s.waits) (each t e) ∙ rested_still ((table == t) && (extent == e)) (slot_at now t e) off;
        room = λ t e has.
            subst (λ (s : List (List (Slot U))). HasCell s t e) (sym changed)
            (HasCell-with_cell now table extent (slot_rested (slot_at now table extent)) t e has);
      })

  -- ---- table after table

  -- no extent of the tables before this one waits
  pub record NoneBefore (upto : ℕ) (slots : List (List (Slot U))) : Type 0 where
    pub each : (table : ℕ) → table < upto → NoneWaits table slots

  pub NoneBefore-next : (old new : List (List (Slot U))) (table : ℕ) → RestsSome old new → NoneWaits table new → NoneBefore table old →
      NoneBefore (table + 1) new
  NoneBefore-next old new table rests none before = record {
    each = λ t within.
        ⊎_elim
        (λ (is : t ≡ table). subst (λ (k : ℕ). NoneWaits k new) (sym is) none)
        (λ (other : t ≡ table → ⊥).
        let less : t < table = omega (arith, within, other) in
        record { each = λ e. rests.less t e ((before.each t less).each e) })
        (cases_eq t table);
  }

  pub NoneBefore-all : (upto past : ℕ) (slots : List (List (Slot U))) → upto ≤ past → NoneBefore past slots → NoneBefore upto slots
  NoneBefore-all upto past slots less before = record { each = λ table within. before.each table (omega (arith, less, within)) }

  same_rested : (s : Slot U) → s.waits ≡ false → s ≡ slot_rested s
  same_rested s off = ap (λ (w : Bool). record s { waits = w }) off

  -- all tables
  pub AreRested-all : (old new : List (List (Slot U))) (tables : ℕ) → ((table : ℕ) → tables ≤ table → NoneWaits table old) → RestsSome old new →
      NoneBefore tables new → AreRested old new
  AreRested-all old new tables past rests before =
      let none = λ (t e : ℕ).
      ⊎_elim
      (λ (within : t < tables). (before.each t within).each e)
      (λ (beyond : tables ≤ t). rests.less t e ((past t beyond).each e))
      (cases_lt t tables) in
      record {
        each = λ t e. same_rested (slot_at new t e) (none t e) ∙ rests.same t e;
        room = rests.room;
      }
