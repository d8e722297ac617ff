-- The changes of a commit, one after another, and what they leave of each extent.
use Rattle.std.proofs.Common.{◌≡◌, ℕ, zero, suc, ◌+◌, ◌≤◌, ◌<◌, inr, Bool, true, false, ◌==◌, ◌&&◌, List, [], ◌∷◌, ◌++◌, length, take, map, filter, Option, Some, None, is_some, if◌then◌else◌, refl, sym, ap, ap₂, subst, ◌∙◌, arith}
use Rattle.std.specs.Prelude.{slice_index_or}
use Rattle.std.specs.List.{fold}
use Rattle.std.specs.Option.{option_map, ForSome}
use Rattle.std.proofs.lemmas.Bool.{false≢true, or_parts, and_from, eq-eqb}
use Rattle.std.proofs.lemmas.List.{take_all, take_more}
use Rattle.std.proofs.lemmas.List.Elements.{filter-append}
use Rattle.std.proofs.lemmas.List.Sums.{fold-append}
use Rattle.im_journal.specs.Stale.{Note, Notes}
use Rattle.im_journal.proofs.ForCallers.{last_scn-noted}
use Rattle.im_history.specs.declared.change.Change.{Change}
use Rattle.im_history.specs.declared.look.TableInfo.{TableInfo}
use Rattle.im_tables.proofs.ForCallers.{HasCell-with_cell}
use Rattle.im_directory.specs.declared.journals.Current.{Current}
use Rattle.im_directory.specs.declared.journals.Growing.{Growing}
use Rattle.im_directory.specs.Effects.{NoneBehind, extent_in, is_in_extent, noted_in, notes_for, with_notes}
use Rattle.im_directory.specs.Slots.{Growth, Slot, Stock, Told, growth, nothing, slot_at, stock, told}
use Rattle.im_directory.specs.Steps.{AreBefore, AreNoted, HasNotesRoom, HasSlotRoom, IsFor, IsSlotBefore, MayNote, TellsAlike, WentThrough, current_noted, growing_noted, has_journal, slot_counted, slot_noted, slot_roomy, slot_through, slot_uncounted, slots_with, with_note, with_room}
use Rattle.im_directory.proofs.SlotLemmas.{slot_at-changed}

-- what holds of an element holds of its image
ForSome-map : {X Y : Type 0} (f : X → Y) (P : X → Type 0) (Q : Y → Type 0) (o : Option X) → ((x : X) → P x → Q (f x)) → ForSome o P → ForSome (option_map f o) Q
ForSome-map f P Q None step holds = λ y is. absurd (false≢true (ap is_some is))
ForSome-map f P Q (Some x) step holds = λ y is. let same : f x ≡ y = cc in subst Q same (step x (holds x refl))

passed_by : {X : Type 0} (b : Bool) (x : X) (before all : List X) → length before + 1 ≤ length all →
    length (if b then x ∷ before else before) + 1 ≤ length (if b then x ∷ all else all)
passed_by true x before all less = omega (arith, less)
passed_by false x before all less = less

-- one element passed more is one more that passes
passed_more : {X : Type 0} (p : X → Bool) (xs : List X) (i : ℕ) (d : X) → i < length xs → p (slice_index_or xs i d) ≡ true →
    length (filter p (take i xs)) + 1 ≤ length (filter p xs)
passed_more p [] i d inside is = absurd (omega arith)
passed_more p (x ∷ xs) zero d inside is = rw is (omega arith)
passed_more p (x ∷ xs) (suc i) d inside is = passed_by (p x) x (filter p (take i xs)) (filter p xs) (passed_more p xs i d (omega arith) is)

fold_filter_by : {X S : Type 0} (b : Bool) (f : S → X → S) (s : S) (done : List X) (x : X) →
    fold f s (done ++ (if b then x ∷ [] else [])) ≡ (if b then f (fold f s done) x else fold f s done)
fold_filter_by true f s done x = fold-append f s done (x ∷ [])
fold_filter_by false f s done x = fold-append f s done []

-- ---- single journals

option_map-same : {X : Type 0} (f : X → X) (o : Option X) → ((x : X) → f x ≡ x) → option_map f o ≡ o
option_map-same f None same = refl
option_map-same f (Some x) same = ap Some (same x)

-- a journal can take so many notes of the commit with this SCN
pub record CanTake (journal : Notes) (scn count : ℕ) : Type 0 where
  pub room : count ≤ journal.spare
  pub later : NoneBehind scn journal.notes

CanTake-noted : (journal : Notes) (row scn count : ℕ) → CanTake journal scn (suc count) → CanTake (with_note (row, scn) journal) scn count
CanTake-noted journal row scn count can = record { room = omega (arith, can.room); later = last_scn-noted journal.notes row scn can.later }

-- a number is itself
eqb-same : (n : ℕ) → (n == n) ≡ true
eqb-same n = eq-eqb n n refl

both_true : {a b : Bool} → a ≡ true → b ≡ true → (a && b) ≡ true
both_true first second = and_from _ _ first second

growth_noted : (note : Note) (notes : List Note) (o : Option Growing) →
    option_map (λ (g : Growth). record g { notes = with_notes notes g.notes }) (option_map growth (option_map (growing_noted note) o)) ≡ option_map
    (λ (g : Growth). record g { notes = with_notes (note ∷ notes) g.notes }) (option_map growth o)
growth_noted note notes None = refl
growth_noted note notes (Some growing) = refl

module _ {U : Type 0} where
  -- what is read of an extent
  abbrev the_told : Option (Stock U) → Option Growth → Bool → Told U
  the_told current growing waits = record { current = current; growing = growing; waits = waits }

  -- one change more
  slot_through-push : (effect : Change → Slot U → Slot U) (tables : List TableInfo) (done : List Change) (change : Change) (table extent : ℕ)
      (slot : Slot U) → slot_through effect tables (done ++ change ∷ []) table extent slot ≡
      (if is_in_extent tables table extent change then effect change
      (slot_through effect tables done table extent slot) else slot_through effect tables done table extent slot)
  slot_through-push effect tables done change table extent slot =
      let step = λ (s : Slot U) (c : Change). effect c s in
      let p = is_in_extent tables table extent in
      ap (fold step slot) (filter-append p done (change ∷ [])) ∙ fold_filter_by (p change) step slot (filter p done) change

  pub WentThrough-none : (effect : Change → Slot U → Slot U) (old : List (List (Slot U))) (tables : List TableInfo) → WentThrough effect old old tables []
  WentThrough-none effect old tables = record { each = λ table extent. refl; room = λ table extent has. has }

  WentThrough-next : (effect : Change → Slot U → Slot U) (old now : List (List (Slot U))) (tables : List TableInfo) (done : List Change) (change : Change) →
      effect change nothing ≡ nothing → WentThrough effect old now tables done →
      WentThrough effect old (slots_with (effect change) change.table (extent_in tables change) now) tables (done ++ change ∷ [])
  WentThrough-next effect old now tables done change keeps went = record {
    each = λ table extent.
        slot_at-changed (effect change) now change.table (extent_in tables change) table extent (inr keeps)
        ∙ (ap (λ (slot : Slot U). if is_in_extent tables table extent change then effect change slot else slot) (went.each table extent)
        ∙ sym (slot_through-push effect tables done change table extent (slot_at old table extent)));
    room = λ table extent has.
        HasCell-with_cell now change.table (extent_in tables change) (effect change (slot_at now change.table (extent_in tables change))) table extent
        (went.room table extent has);
  }

  -- the next change of a list has its effect
  pub WentThrough-step : (effect : Change → Slot U → Slot U) (old now next : List (List (Slot U))) (tables : List TableInfo) (changes : List Change)
      (i extent : ℕ) (change : Change) → effect change nothing ≡ nothing → WentThrough effect old now tables (take i changes) → i < length changes →
      change ≡ slice_index_or changes i change → IsFor now tables change extent → next ≡ slots_with (effect change) change.table extent now →
      WentThrough effect old next tables (take (i + 1) changes)
  WentThrough-step effect old now next tables changes i extent change keeps went inside is at made =
      let one : List Change = take i changes ++ change ∷ [] in
      let more : take (i + 1) changes ≡ one = take_more changes i change inside ∙ ap (λ (c : Change). take i changes ++ c ∷ []) (sym is) in
      let same : next ≡ slots_with (effect change) change.table (extent_in tables change) now = made
      ∙ at.changed (effect change) in
      subst (λ (l : List Change). WentThrough effect old next tables l) (sym more)
      (subst (λ (n : List (List (Slot U))). WentThrough effect old n tables one) (sym same)
      (WentThrough-next effect old now tables (take i changes) change keeps went))

  -- all changes of a list had theirs
  pub WentThrough-all : (effect : Change → Slot U → Slot U) (old now : List (List (Slot U))) (tables : List TableInfo) (changes : List Change) (i : ℕ) →
      length changes ≤ i → WentThrough effect old now tables (take i changes) → WentThrough effect old now tables changes
  WentThrough-all effect old now tables changes i past went = subst (λ (l : List Change). WentThrough effect old now tables l) (take_all i changes past) went

  -- ---- notes

  same_told : (a b : Option (Stock U)) (c d : Option Growth) (waits : Bool) → a ≡ b → c ≡ d → the_told a c waits ≡ the_told b d waits
  same_told a b c d waits first second = ap₂ (λ (current : Option (Stock U)) (growing : Option Growth). the_told current growing waits) first second

  stock_noted : (note : Note) (notes : List Note) (o : Option (Current U)) →
      option_map (λ (s : Stock U). record s { notes = with_notes notes s.notes }) (option_map stock (option_map (current_noted note) o)) ≡ option_map
      (λ (s : Stock U). record s { notes = with_notes (note ∷ notes) s.notes }) (option_map stock o)
  stock_noted note notes None = refl
  stock_noted note notes (Some current) = refl

  -- what is read of an extent after some notes
  told-noted : (scn : ℕ) (changes : List Change) (slot : Slot U) →
      told (fold (λ s c. slot_noted (c.rid, scn) s) slot changes) ≡ noted_in (map (λ c. (c.rid, scn)) changes) (told slot)
  told-noted scn [] slot =
      sym (same_told _ _ _ _ slot.waits (option_map-same (λ (s : Stock U). s) (told slot).current (λ s. refl))
      (option_map-same (λ (g : Growth). g) (told slot).growing (λ g. refl)))
  told-noted scn (change ∷ changes) slot =
      let note : Note = (change.rid, scn) in
      told-noted scn changes (slot_noted note slot)
      ∙ same_told _ _ _ _ slot.waits (stock_noted note (map (λ c. (c.rid, scn)) changes) slot.current)
      (growth_noted note (map (λ c. (c.rid, scn)) changes) slot.growing)

  pub AreNoted-all : (old new : List (List (Slot U))) (tables : List TableInfo) (scn : ℕ) (changes : List Change) →
      WentThrough (λ change. slot_noted (change.rid, scn)) old new tables changes → AreNoted old new tables scn changes
  AreNoted-all old new tables scn changes went = record {
    each = λ table extent.
        ap told (went.each table extent) ∙ told-noted scn (filter (is_in_extent tables table extent) changes) (slot_at old table extent);
    room = went.room;
  }

  -- the journals of an extent can take so many notes of a commit
  pub record IsReady (slot : Slot U) (scn count : ℕ) : Type 0 where
    pub current : ForSome slot.current (λ current. CanTake current.journal scn count)
    pub growing : ForSome slot.growing (λ growing. CanTake growing.journal scn count)

  IsReady-noted : (slot : Slot U) (row scn count : ℕ) → IsReady slot scn (suc count) → IsReady (slot_noted (row, scn) slot) scn count
  IsReady-noted slot row scn count ready = record {
    current =
        ForSome-map (current_noted (row, scn)) (λ (c : Current U). CanTake c.journal scn (suc count))
        (λ (c : Current U). CanTake c.journal scn count) slot.current (λ c can. CanTake-noted c.journal row scn count can) ready.current;
    growing =
        ForSome-map (growing_noted (row, scn)) (λ (g : Growing). CanTake g.journal scn (suc count))
        (λ (g : Growing). CanTake g.journal scn count) slot.growing (λ g can. CanTake-noted g.journal row scn count can) ready.growing;
  }

  pub IsReady-through : (scn count : ℕ) (changes : List Change) (slot : Slot U) → IsReady slot scn (length changes + count) →
      IsReady (fold (λ s c. slot_noted (c.rid, scn) s) slot changes) scn count
  IsReady-through scn count [] slot ready = let same : 0 + count ≡ count = omega arith in subst (IsReady slot scn) same ready
  IsReady-through scn count (change ∷ changes) slot ready =
      let same : suc (length changes) + count ≡ suc (length changes + count) = omega arith in
      IsReady-through scn count changes (slot_noted (change.rid, scn) slot)
      (IsReady-noted slot change.rid scn (length changes + count) (subst (IsReady slot scn) same ready))

  pub IsReady-from : (slot : Slot U) (scn count wanted : ℕ) → HasSlotRoom slot wanted → IsSlotBefore slot scn → count ≤ wanted → IsReady slot scn count
  IsReady-from slot scn count wanted room before less = record {
    current = λ c is. let enough = room.current c is in record { room = omega (arith, enough, less); later = before.current c is };
    growing = λ g is. let enough = room.growing g is in record { room = omega (arith, enough, less); later = before.growing g is };
  }

  -- there is room for them, and none is of a later commit
  pub IsReady-room : (slot : Slot U) (scn count : ℕ) → IsReady slot scn count → HasSlotRoom slot count × IsSlotBefore slot scn
  IsReady-room slot scn count ready = (
    record { current = λ c is. (ready.current c is).room; growing = λ g is. (ready.growing g is).room },
    record { current = λ c is. (ready.current c is).later; growing = λ g is. (ready.growing g is).later },
  )

  MayNote-from : (slot : Slot U) (scn : ℕ) → IsReady slot scn 1 → MayNote slot scn
  MayNote-from slot scn ready = record {
    current = λ c is. let can = ready.current c is in record { room = can.room; later = can.later };
    growing = λ g is. let can = ready.growing g is in record { room = can.room; later = can.later };
  }

  -- the extent of the next change can take a note
  pub MayNote-next : (old now : List (List (Slot U))) (tables : List TableInfo) (scn : ℕ) (changes : List Change) (i : ℕ) (change : Change) →
      HasNotesRoom old tables changes → AreBefore old scn → WentThrough (λ c. slot_noted (c.rid, scn)) old now tables (take i changes) →
      i < length changes → change ≡ slice_index_or changes i change → MayNote (slot_at now change.table (extent_in tables change)) scn
  MayNote-next old now tables scn changes i change room before went inside is =
      let table : ℕ = change.table in
      let extent : ℕ = extent_in tables change in
      let p = is_in_extent tables table extent in
      let here : p change ≡ true = both_true (eqb-same change.table) (eqb-same (extent_in tables change)) in
      let passes : p (slice_index_or changes i change) ≡ true = ap p (sym is) ∙ here in
      let more = passed_more p changes i change inside passes in
      let ready =
      IsReady-from (slot_at old table extent) scn (length (filter p (take i changes)) + 1) (notes_for tables changes table extent)
      (room.each table extent) (before.each table extent) more in
      MayNote-from (slot_at now table extent) scn
      (subst (λ (slot : Slot U). IsReady slot scn 1) (sym (went.each table extent))
      (IsReady-through scn 1 (filter p (take i changes)) (slot_at old table extent) ready))

  -- ---- room

  told-uncounted : (changes : List Change) (slot : Slot U) → told (fold (λ s c. slot_uncounted s) slot changes) ≡ told slot
  told-uncounted [] slot = refl
  told-uncounted (change ∷ changes) slot = told-uncounted changes (slot_uncounted slot)

  wanted-uncounted : (changes : List Change) (slot : Slot U) → slot.wanted ≡ 0 → (fold (λ s c. slot_uncounted s) slot changes).wanted ≡ 0
  wanted-uncounted [] slot none = none
  wanted-uncounted (change ∷ changes) slot none = wanted-uncounted changes (slot_uncounted slot) refl

  pub TellsAlike-uncounted : (old new : List (List (Slot U))) (tables : List TableInfo) (changes : List Change) →
      WentThrough (λ change. slot_uncounted) old new tables changes → TellsAlike old new
  TellsAlike-uncounted old new tables changes went = record {
    each = λ table extent. ap told (went.each table extent) ∙ told-uncounted (filter (is_in_extent tables table extent) changes) (slot_at old table extent);
    room = went.room;
  }

  pub TellsAlike-same : (slots : List (List (Slot U))) → TellsAlike slots slots
  TellsAlike-same slots = record { each = λ table extent. refl; room = λ table extent has. has }

  pub TellsAlike-trans : (a b c : List (List (Slot U))) → TellsAlike a b → TellsAlike b c → TellsAlike a c
  TellsAlike-trans a b c ab bc = record {
    each = λ table extent. bc.each table extent ∙ ab.each table extent;
    room = λ table extent has. bc.room table extent (ab.room table extent has);
  }

  -- so many notes are counted of an extent, and there is room for them
  record IsCounted (slot : Slot U) (count : ℕ) : Type 0 where
    room : HasSlotRoom slot count
    wanted : has_journal slot ≡ true → slot.wanted ≡ count

  room_made : (slot : Slot U) (count : ℕ) → HasSlotRoom (slot_roomy count slot) count
  room_made slot count = record {
    current =
        ForSome-map (λ (c : Current U). record c { journal = with_room count c.journal }) (λ c. Unit {0})
        (λ (c : Current U). count ≤ c.journal.spare) slot.current (λ c any. omega arith) (λ c is. tt);
    growing =
        ForSome-map (λ (g : Growing). record g { journal = with_room count g.journal }) (λ g. Unit {0})
        (λ (g : Growing). count ≤ g.journal.spare) slot.growing (λ g any. omega arith) (λ g is. tt);
  }

  room_of_none : (slot : Slot U) (count : ℕ) → has_journal slot ≡ false → HasSlotRoom slot count
  room_of_none slot count none =
      let parts = or_parts (is_some slot.current) (is_some slot.growing) none in
      record {
        current = λ c is. absurd (false≢true (sym parts.0 ∙ ap is_some is));
        growing = λ g is. absurd (false≢true (sym parts.1 ∙ ap is_some is));
      }

  counted_by : (b : Bool) (slot : Slot U) (count : ℕ) → has_journal slot ≡ b → IsCounted slot count →
      IsCounted (if b then slot_roomy (slot.wanted + 1) slot else slot) (count + 1)
  counted_by true slot count is counted =
      let same : slot.wanted + 1 ≡ count + 1 = ap (λ n. n + 1) (counted.wanted is) in
      record { room = subst (HasSlotRoom (slot_roomy (slot.wanted + 1) slot)) same (room_made slot (slot.wanted + 1)); wanted = λ any. same }
  counted_by false slot count is counted = record { room = room_of_none slot (count + 1) is; wanted = λ any. absurd (false≢true (sym is ∙ any)) }

  IsCounted-through : (count : ℕ) (changes : List Change) (slot : Slot U) → IsCounted slot count →
      IsCounted (fold (λ s c. slot_counted s) slot changes) (count + length changes)
  IsCounted-through count [] slot counted = let same : count ≡ count + 0 = omega arith in subst (IsCounted slot) same counted
  IsCounted-through count (change ∷ changes) slot counted =
      let same : count + 1 + length changes ≡ count + suc (length changes) = omega arith in
      subst (IsCounted (fold (λ s c. slot_counted s) (slot_counted slot) changes)) same
      (IsCounted-through (count + 1) changes (slot_counted slot) (counted_by (has_journal slot) slot count refl counted))

  no_room_needed : (slot : Slot U) → HasSlotRoom slot 0
  no_room_needed slot = record { current = λ c is. omega arith; growing = λ g is. omega arith }

  room_counted : (changes : List Change) (slot : Slot U) → HasSlotRoom (fold (λ s c. slot_counted s) (fold (λ s c. slot_uncounted s) slot changes) changes)
      (length changes)
  room_counted [] slot = no_room_needed slot
  room_counted (change ∷ changes) slot =
      let all : List Change = change ∷ changes in
      let start : Slot U = fold (λ s c. slot_uncounted s) slot all in
      let none : start.wanted ≡ 0 = wanted-uncounted changes (slot_uncounted slot) refl in
      let counted = IsCounted-through 0 all start (record { room = no_room_needed start; wanted = λ any. none }) in
      let same : 0 + length all ≡ length all = omega arith in
      subst (HasSlotRoom (fold (λ s c. slot_counted s) start all)) same counted.room

  pub HasNotesRoom-made : (old mid new : List (List (Slot U))) (tables : List TableInfo) (changes : List Change) →
      WentThrough (λ change. slot_uncounted) old mid tables changes → WentThrough (λ change. slot_counted) mid new tables changes →
      HasNotesRoom new tables changes
  HasNotesRoom-made old mid new tables changes first second = record {
    each = λ table extent.
        let mine : List Change = filter (is_in_extent tables table extent) changes in
        let is = second.each table extent ∙ ap (λ (s : Slot U). fold (λ s c. slot_counted s) s mine) (first.each table extent) in
        subst (λ (s : Slot U). HasSlotRoom s (length mine)) (sym is) (room_counted mine (slot_at old table extent));
  }
