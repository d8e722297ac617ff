-- The writes of a commit, one after another.
use Rattle.std.proofs.Common.{◌≡◌, ℕ, suc, ◌+◌, ◌≤◌, ◌<◌, Bool, true, false, ◌==◌, List, [], ◌∷◌, ◌++◌, length, take, drop, drop-cons, filter, fold, All, None, Some, if◌then◌else◌, refl, sym, ap, subst, ◌∙◌, arith}
use Rattle.std.specs.Prelude.{slice_get, slice_index_or}
use Rattle.std.proofs.lemmas.List.{append-nil, length-append, take_all, take_more}
use Rattle.std.proofs.lemmas.List.Concat.{flat_map-append}
use Rattle.std.proofs.lemmas.List.Elements.{All-head, All-tail, All-nil, All-cons, filter-append}
use Rattle.std.proofs.lemmas.List.Sums.{fold-append}
use Rattle.std.proofs.lemmas.Option.{get_or_from_slice_get}
use Rattle.im_tables.proofs.Tests.{and-true, eq-true}
use Rattle.im_tables.specs.Table.{row_of}
use Rattle.im_history.specs.declared.change.Change.{Change}
use Rattle.im_history.specs.declared.look.TableInfo.{TableInfo}
use Rattle.im_history.specs.Puts.{all_changes, put_from}
use Rattle.im_history.specs.Rows.{Row}
use Rattle.im_directory.specs.Effects.{extent_in, is_in_extent, notes_for}
use Rattle.im_directory.specs.Slots.{Slot, nothing, slot_at}
use Rattle.im_directory.specs.Steps.{AreBefore, HasNotesRoom, HaveNoExtents, IsFor, WentThrough, slot_noted, slot_through, slots_with}
use Rattle.im_directory.proofs.NotingLemmas.{IsReady, IsReady-from, IsReady-room, IsReady-through, WentThrough-step}
use Rattle.im_directory.proofs.SlotLemmas.{slot_at-none}

-- a change that is found is the one that stands there
pub stands : (changes : List Change) (i : ℕ) (change : Change) → slice_get changes i ≡ Some change → change ≡ slice_index_or changes i change
stands changes i change is = sym (get_or_from_slice_get changes i change change is)

-- one write more
all-more : (writes : List (List Change)) (i : ℕ) (changes : List Change) → i < length writes → changes ≡ slice_index_or writes i changes →
    all_changes (take (i + 1) writes) ≡ all_changes (take i writes) ++ changes
all-more writes i changes inside is =
    ap all_changes (take_more writes i changes inside ∙ ap (λ (w : List Change). take i writes ++ w ∷ []) (sym is))
    ∙ (flat_map-append (λ (w : List Change). w) (take i writes) (changes ∷ [])
    ∙ ap (λ (more : List Change). all_changes (take i writes) ++ more) (append-nil changes))

-- those that are left
pub all-left : (writes : List (List Change)) (i : ℕ) (changes : List Change) → i < length writes → changes ≡ slice_index_or writes i changes →
    all_changes (drop i writes) ≡ changes ++ all_changes (drop (i + 1) writes)
all-left writes i changes inside is =
    let next : suc i ≡ i + 1 = omega arith in
    ap all_changes (drop-cons writes i changes inside)
    ∙ (ap (λ (w : List Change). w ++ all_changes (drop (suc i) writes)) (sym is)
    ∙ ap (λ (n : ℕ). changes ++ all_changes (drop n writes)) next)

module _ {U : Type 0} where
  -- the changes of one list, and then those of another
  pub WentThrough-append : (effect : Change → Slot U → Slot U) (old mid new : List (List (Slot U))) (tables : List TableInfo) (done changes : List Change) →
      WentThrough effect old mid tables done → WentThrough effect mid new tables changes → WentThrough effect old new tables (done ++ changes)
  WentThrough-append effect old mid new tables done changes first second = record {
    each = λ table extent.
        let p = is_in_extent tables table extent in
        let step = λ (s : Slot U) (c : Change). effect c s in
        let start : Slot U = slot_at old table extent in
        second.each table extent
        ∙ (ap (slot_through effect tables changes table extent) (first.each table extent)
        ∙ sym (ap (fold step start) (filter-append p done changes) ∙ fold-append step start (filter p done) (filter p changes)));
    room = λ table extent has. second.room table extent (first.room table extent has);
  }

  -- one write more
  pub WentThrough-write : (effect : Change → Slot U → Slot U) (old mid new : List (List (Slot U))) (tables : List TableInfo) (writes : List (List Change))
      (i : ℕ) (changes : List Change) → i < length writes → changes ≡ slice_index_or writes i changes → WentThrough effect old mid tables (all_changes (take i writes)) →
      WentThrough effect mid new tables changes → WentThrough effect old new tables (all_changes (take (i + 1) writes))
  WentThrough-write effect old mid new tables writes i changes inside is first second =
      subst (WentThrough effect old new tables) (sym (all-more writes i changes inside is))
      (WentThrough-append effect old mid new tables (all_changes (take i writes)) changes first second)

  pub WentThrough-writes : (effect : Change → Slot U → Slot U) (old now : List (List (Slot U))) (tables : List TableInfo) (writes : List (List Change)) (i : ℕ) →
      length writes ≤ i → WentThrough effect old now tables (all_changes (take i writes)) → WentThrough effect old now tables (all_changes writes)
  WentThrough-writes effect old now tables writes i past went =
      subst (λ (w : List (List Change)). WentThrough effect old now tables (all_changes w)) (take_all i writes past) went

  -- the next change of a write has its effect
  pub WentThrough-found : (effect : Change → Slot U → Slot U) (old now next : List (List (Slot U))) (tables : List TableInfo) (changes : List Change)
      (i extent : ℕ) (change : Change) → effect change nothing ≡ nothing → WentThrough effect old now tables (take i changes) → i < length changes →
      slice_get changes i ≡ Some change → IsFor now tables change extent → next ≡ slots_with (effect change) change.table extent now →
      WentThrough effect old next tables (take (i + 1) changes)
  WentThrough-found effect old now next tables changes i extent change keeps went inside is at made =
      WentThrough-step effect old now next tables changes i extent change keeps went inside (stands changes i change is) at made

  -- ---- tables without extents

  nothing-here : (slots : List (List (Slot U))) (change : Change) (table extent : ℕ) → length (row_of slots change.table) ≡ 0 → change.table ≡ table →
      nothing ≡ slot_at slots table extent
  nothing-here slots change table extent none is = slot_at-none slots table extent (nowhere (row_of slots table) extent (ap (λ (k : ℕ). length (row_of slots k)) (sym is) ∙ none))
    where
      nowhere : (xs : List (Slot U)) (k : ℕ) → length xs ≡ 0 → slice_get xs k ≡ None
      nowhere [] k short = refl
      nowhere (x ∷ xs) k short = absurd (omega (arith, short))

  skipped-by : (effect : Change → Slot U → Slot U) (slots : List (List (Slot U))) (tables : List TableInfo) (change : Change) (changes : List Change)
      (table extent : ℕ) (b : Bool) → ((change : Change) → effect change nothing ≡ nothing) → length (row_of slots change.table) ≡ 0 →
      is_in_extent tables table extent change ≡ b →
      slot_at slots table extent ≡ slot_through effect tables changes table extent (slot_at slots table extent) →
      slot_at slots table extent ≡
      fold (λ slot change. effect change slot) (slot_at slots table extent)
      (if b then change ∷ filter (is_in_extent tables table extent) changes else filter (is_in_extent tables table extent) changes)
  skipped-by effect slots tables change changes table extent false keeps none e rest = rest
  skipped-by effect slots tables change changes table extent true keeps none e rest =
      let mine : change.table ≡ table = eq-true change.table table (and-true (change.table == table) (extent_in tables change == extent) e).0 in
      let blank : nothing ≡ slot_at slots table extent = nothing-here slots change table extent none mine in
      let same : effect change (slot_at slots table extent) ≡ slot_at slots table extent = ap (effect change) (sym blank) ∙ (keeps change ∙ blank) in
      rest ∙ ap (slot_through effect tables changes table extent) (sym same)

  -- changes to tables without extents have no effect
  skipped : (effect : Change → Slot U → Slot U) (slots : List (List (Slot U))) (tables : List TableInfo) (changes : List Change) (table extent : ℕ) →
      ((change : Change) → effect change nothing ≡ nothing) → All (λ change. length (row_of slots change.table) ≡ 0) changes →
      slot_at slots table extent ≡ slot_through effect tables changes table extent (slot_at slots table extent)
  skipped effect slots tables [] table extent keeps none = refl
  skipped effect slots tables (change ∷ changes) table extent keeps none =
      skipped-by effect slots tables change changes table extent (is_in_extent tables table extent change) keeps
      (All-head (λ (c : Change). length (row_of slots c.table) ≡ 0) change changes none) refl
      (skipped effect slots tables changes table extent keeps (All-tail (λ (c : Change). length (row_of slots c.table) ≡ 0) change changes none))

  pub WentThrough-skipped : (effect : Change → Slot U → Slot U) (slots : List (List (Slot U))) (tables : List TableInfo) (changes : List Change) →
      ((change : Change) → effect change nothing ≡ nothing) → HaveNoExtents slots changes → WentThrough effect slots slots tables changes
  WentThrough-skipped effect slots tables changes keeps none = record {
    each = λ table extent. skipped effect slots tables changes table extent keeps none.each;
    room = λ table extent has. has;
  }

  puts-none : (slots : List (List (Slot U))) (table first : ℕ) (rows : List Row) → length (row_of slots table) ≡ 0 →
      All (λ change. length (row_of slots change.table) ≡ 0) (put_from table first rows)
  puts-none slots table first [] none = All-nil _
  puts-none slots table first (row ∷ rows) none =
      All-cons (λ (c : Change). length (row_of slots c.table) ≡ 0) (record { table = table; rid = first; row = Some row }) (put_from table (first + 1) rows) none
      (puts-none slots table (first + 1) rows none)

  -- rows that are put into a table without extents
  pub HaveNoExtents-put : (slots : List (List (Slot U))) (changes : List Change) (table first : ℕ) (rows : List Row) → changes ≡ put_from table first rows →
      length (row_of slots table) ≡ 0 → HaveNoExtents slots changes
  HaveNoExtents-put slots changes table first rows is none =
      subst (HaveNoExtents slots) (sym is) (record { each = puts-none slots table first rows none })

  -- ---- room for the notes of what is left

  -- room for the notes of two lists is room for those of the first
  pub HasNotesRoom-first : (slots : List (List (Slot U))) (tables : List TableInfo) (all changes left : List Change) → all ≡ changes ++ left →
      HasNotesRoom slots tables all → HasNotesRoom slots tables changes
  HasNotesRoom-first slots tables all changes left is room = record {
    each = λ table extent.
        let p = is_in_extent tables table extent in
        let long = ap (λ (cs : List Change). length (filter p cs)) is ∙ ap length (filter-append p changes left) ∙ length-append (filter p changes) (filter p left) in
        let has = room.each table extent in
        record {
          current = λ c there. let enough = has.current c there in omega (arith, enough, long);
          growing = λ g there. let enough = has.growing g there in omega (arith, enough, long);
        };
  }

  -- and once those are noted, for those of the second
  ready-left : (old new : List (List (Slot U))) (tables : List TableInfo) (scn : ℕ) (all changes left : List Change) → all ≡ changes ++ left →
      HasNotesRoom old tables all → AreBefore old scn → WentThrough (λ c. slot_noted (c.rid, scn)) old new tables changes →
      (table extent : ℕ) → IsReady (slot_at new table extent) scn (notes_for tables left table extent)
  ready-left old new tables scn all changes left is room before went table extent =
      let p = is_in_extent tables table extent in
      let long = ap (λ (cs : List Change). length (filter p cs)) is ∙ ap length (filter-append p changes left) ∙ length-append (filter p changes) (filter p left) in
      subst (λ (slot : Slot U). IsReady slot scn (length (filter p left))) (sym (went.each table extent))
      (IsReady-through scn (length (filter p left)) (filter p changes) (slot_at old table extent)
      (IsReady-from (slot_at old table extent) scn (length (filter p changes) + length (filter p left)) (notes_for tables all table extent)
      (room.each table extent) (before.each table extent) (omega (arith, long))))

  pub HasNotesRoom-left : (old new : List (List (Slot U))) (tables : List TableInfo) (scn : ℕ) (all changes left : List Change) → all ≡ changes ++ left →
      HasNotesRoom old tables all → AreBefore old scn → WentThrough (λ c. slot_noted (c.rid, scn)) old new tables changes → HasNotesRoom new tables left
  HasNotesRoom-left old new tables scn all changes left is room before went = record {
    each = λ table extent. (IsReady-room _ scn _ (ready-left old new tables scn all changes left is room before went table extent)).0;
  }

  pub AreBefore-left : (old new : List (List (Slot U))) (tables : List TableInfo) (scn : ℕ) (all changes left : List Change) → all ≡ changes ++ left →
      HasNotesRoom old tables all → AreBefore old scn → WentThrough (λ c. slot_noted (c.rid, scn)) old new tables changes → AreBefore new scn
  AreBefore-left old new tables scn all changes left is room before went = record {
    each = λ table extent. (IsReady-room _ scn _ (ready-left old new tables scn all changes left is room before went table extent)).1;
  }
