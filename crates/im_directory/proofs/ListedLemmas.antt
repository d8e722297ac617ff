-- What the lists of extents say, and the bytes of all units, once an extent has changed or more have a place.
use Rattle.std.proofs.Common.{◌≡◌, ℕ, suc, ◌+◌, ◌-◌, ◌≤◌, Bool, true, false, List, [], ◌∷◌, length, get_or, set, sum_by, Option, Some, None, refl, sym, ap, ap₂, subst, ◌∙◌, ⊎_elim, arith}
use Rattle.std.specs.Option.{IsSome, option_map}
use Rattle.std.specs.declared.alloc.Global.{Global}
use Rattle.std.specs.declared.sync.Arc.{Arc}
use Rattle.std.proofs.lemmas.Bool.{cases_Bool, false≢true}
use Rattle.std.proofs.lemmas.List.{get_or_past}
use Rattle.std.proofs.lemmas.List.Sums.{sum_by-cons, sum_by-set}
use Rattle.im_journal.specs.Stale.{Note}
use Rattle.im_tables.specs.Table.{AddsUpTo, HasCell, IsGrown, cell_at, found_at, row_of, with_cell}
use Rattle.im_tables.proofs.ForCallers.{HasCell-found, HasCell-where, HasCell-with_cell, cell_at-nil, cell_at-with_cell_other, cell_at-with_cell_same, length-with_cell, same_cell, table_of}
use Rattle.im_history.specs.Contents.{unit_bytes}
use Rattle.im_history.specs.Units.{Content}
use Rattle.im_directory.specs.declared.lists.Lists.{Lists}
use Rattle.im_directory.specs.declared.marks.Marks.{Marks}
use Rattle.im_directory.specs.declared.journals.Current.{Current}
use Rattle.im_directory.specs.declared.journals.Growing.{Growing}
use Rattle.im_directory.specs.Lists.{current_bytes, used_in}
use Rattle.im_directory.specs.Slots.{Slot, Stock, Told, nothing, slot_at, stock, told}
use Rattle.im_directory.specs.Steps.{current_grown, current_noted, slot_noted}
use Rattle.im_directory.specs.inner.Listed.{AreListed, HasMarks, KeepsMarks, NoneWaits, marks_at, marks_of, with_marks}
use Rattle.im_directory.proofs.SlotLemmas.{TellsAlike-found, slot_at-found}

-- ---- sums over lists that are read alike

-- lists whose elements count alike, past their ends too, have the same sum
sum_by-alike : {X : Type 0} (f : X → ℕ) (xs ys : List X) (d : X) → f d ≡ 0 → ((i : ℕ) → f (get_or ys i d) ≡ f (get_or xs i d)) →
    sum_by f ys ≡ sum_by f xs
sum_by-alike f [] [] d none same = refl
sum_by-alike f [] (y ∷ ys) d none same =
    omega (arith, sum_by-cons f y ys, same 0, none, sum_by-alike f [] ys d none (λ i. same (suc i)))
sum_by-alike f (x ∷ xs) [] d none same =
    omega (arith, sum_by-cons f x xs, same 0, none, sum_by-alike f xs [] d none (λ i. same (suc i)))
sum_by-alike f (x ∷ xs) (y ∷ ys) d none same =
    omega (arith, sum_by-cons f x xs, sum_by-cons f y ys, same 0, sum_by-alike f xs ys d none (λ i. same (suc i)))

-- no cell is new where one was put
HasCell-with_cell-back : {T : Type 0} (cells : List (List T)) (table number : ℕ) (cell : T) (t n : ℕ) → HasCell (with_cell table number cell cells) t n →
    HasCell cells t n
HasCell-with_cell-back cells table number cell t n has =
    let long = length-with_cell cells table number cell t in
    let below = has.below in
    record { below = omega (arith, long, below) }

-- ---- marks

-- room for the marks of an extent is room for those of its table before it
HasMarks-before : (lists : Lists) (table extent n : ℕ) → n ≤ extent → HasMarks lists table extent → HasMarks lists table n
HasMarks-before lists table extent n less has =
    let taken = has.taken.below in
    let due = has.due.below in
    let stale = has.stale.below in
    let waiting = has.waiting.below in
    record {
      taken = record { below = omega (arith, less, taken) };
      due = record { below = omega (arith, less, due) };
      stale = record { below = omega (arith, less, stale) };
      waiting = record { below = omega (arith, less, waiting) };
      within = has.within;
    }

HasMarks-put : (lists : Lists) (table extent : ℕ) (marks : Marks) (t e : ℕ) → HasMarks lists t e → HasMarks (with_marks table extent marks lists) t e
HasMarks-put lists table extent marks t e has = record {
  taken = HasCell-with_cell lists.taken table extent marks.taken t e has.taken;
  due = HasCell-with_cell lists.due table extent marks.due t e has.due;
  stale = HasCell-with_cell lists.stale table extent marks.stale t e has.stale;
  waiting = HasCell-with_cell lists.waiting table extent marks.waits t e has.waiting;
  within = has.within;
}

same_marks : (a b : Marks) → a.taken ≡ b.taken → a.due ≡ b.due → a.stale ≡ b.stale → a.waits ≡ b.waits → a ≡ b
same_marks a b taken due stale waits =
    ap₂ (λ (t d : Bool). record { taken = t; due = d; stale = a.stale; waits = a.waits }) taken due
    ∙ ap₂ (λ (s w : Bool). record { taken = b.taken; due = b.due; stale = s; waits = w }) stale waits

-- the marks that were put
marks_at-same : (lists : Lists) (table extent : ℕ) (marks : Marks) → HasMarks lists table extent →
    marks_at (with_marks table extent marks lists) table extent ≡ marks
marks_at-same lists table extent marks has =
    same_marks _ marks
    (cell_at-with_cell_same false lists.taken table extent marks.taken has.taken)
    (cell_at-with_cell_same false lists.due table extent marks.due has.due)
    (cell_at-with_cell_same false lists.stale table extent marks.stale has.stale)
    (cell_at-with_cell_same false lists.waiting table extent marks.waits has.waiting)

-- those of each other extent stay
marks_at-other : (lists : Lists) (table extent : ℕ) (marks : Marks) (t e : ℕ) → (t ≡ table → e ≡ extent → ⊥) →
    marks_at (with_marks table extent marks lists) t e ≡ marks_at lists t e
marks_at-other lists table extent marks t e apart =
    same_marks _ (marks_at lists t e)
    (cell_at-with_cell_other false lists.taken table extent marks.taken t e apart)
    (cell_at-with_cell_other false lists.due table extent marks.due t e apart)
    (cell_at-with_cell_other false lists.stale table extent marks.stale t e apart)
    (cell_at-with_cell_other false lists.waiting table extent marks.waits t e apart)

module _ {U : Type 0} (content : U → Content) where
  -- ---- bytes

  abbrev stock_bytes : Option (Stock U) → ℕ
  stock_bytes None = 0
  stock_bytes (Some stock) = unit_bytes (content stock.unit)

  bytes_of_stock : (o : Option (Current U)) → current_bytes content o ≡ stock_bytes (option_map stock o)
  bytes_of_stock None = refl
  bytes_of_stock (Some current) = refl

  -- where the same is read, the unit counts for the same bytes
  bytes_told : (slot other : Slot U) → told slot ≡ told other → current_bytes content slot.current ≡ current_bytes content other.current
  bytes_told slot other same =
      bytes_of_stock slot.current ∙ (ap (λ (t : Told U). stock_bytes t.current) same ∙ sym (bytes_of_stock other.current))

  -- the bytes of all units, once one extent has changed
  used_put : (slots : List (List (Slot U))) (table extent : ℕ) (now : Slot U) → HasCell slots table extent →
      used_in content (with_cell table extent now slots) + current_bytes content (slot_at slots table extent).current
      ≡ used_in content slots + current_bytes content now.current
  unfolding cell_at
  used_put slots table extent now has =
      let one = λ (slot : Slot U). current_bytes content slot.current in
      let row = set (row_of slots table) extent now in
      let outer = sum_by-set (sum_by one) slots table row [] (table_of slots table extent has) in
      let inner = sum_by-set one (row_of slots table) extent now nothing has.below in
      omega (arith, outer, inner)

  -- the bytes of one unit are among them
  pub used_part : (slots : List (List (Slot U))) (table extent : ℕ) → HasCell slots table extent →
      current_bytes content (slot_at slots table extent).current ≤ used_in content slots
  used_part slots table extent has = let put = used_put slots table extent nothing has in omega (arith, put)

  -- where more extents have a place they are as before
  used_grown : (old new : List (List (Slot U))) → IsGrown nothing old new → used_in content new ≡ used_in content old
  unfolding cell_at
  used_grown old new grown =
      let one = λ (slot : Slot U). current_bytes content slot.current in
      sum_by-alike (sum_by one) old new [] refl
      (λ table. sum_by-alike one (row_of old table) (row_of new table) nothing refl (λ extent. ap one (grown.cells table extent)))

  -- ---- lists

  -- nothing is kept, and nothing is up
  pub AreListed-new : (slots : List (List (Slot U))) (lists : Lists) → slots ≡ [] →
      lists ≡ record { taken = []; due = []; stale = []; waiting = []; tables = 0 } → AreListed content slots lists 0
  AreListed-new slots lists none empty = rw (none, empty) (record {
    marks = λ table extent.
        same_marks _ (marks_of content (told nothing))
        (cell_at-nil false table extent) (cell_at-nil false table extent) (cell_at-nil false table extent) (cell_at-nil false table extent)
        ∙ ap (λ (s : Slot U). marks_of content (told s)) (sym (cell_at-nil nothing table extent));
    room = λ table extent has. let below = has.below in absurd (omega (arith, below, ap length (get_or_past {X = List (Slot U)} [] table [] (omega arith))));
    few = omega arith;
    used = refl;
  })

  -- more room for marks
  pub AreListed-kept : (slots : List (List (Slot U))) (old new : Lists) (bytes : ℕ) → KeepsMarks old new → AreListed content slots old bytes →
      AreListed content slots new bytes
  AreListed-kept slots old new bytes keeps listed = record {
    marks = λ table extent. keeps.same table extent ∙ listed.marks table extent;
    room = λ table extent has. keeps.room table extent (listed.room table extent has);
    few = keeps.few listed.few;
    used = listed.used;
  }

  -- more extents have a place
  pub AreListed-grown : (old new : List (List (Slot U))) (lists : Lists) (bytes table extent : ℕ) → IsGrown nothing old new →
      AddsUpTo table extent old new → HasMarks lists table extent → AreListed content old lists bytes → AreListed content new lists bytes
  AreListed-grown old new lists bytes table extent grown adds has listed = record {
    marks = λ t e. listed.marks t e ∙ ap (λ (s : Slot U). marks_of content (told s)) (sym (grown.cells t e));
    room = λ t e there.
        ⊎_elim
        (λ (before : HasCell old t e). listed.room t e before)
        (λ (added : (t ≡ table) × (e ≤ extent)).
        subst (λ (k : ℕ). HasMarks lists k e) (sym added.0) (HasMarks-before lists table extent e added.1 has))
        (adds.each t e there);
    few = listed.few;
    used = listed.used ∙ sym (used_grown old new grown);
  }

  -- an extent of which the same is read
  pub AreListed-alike : (slots after : List (List (Slot U))) (lists : Lists) (bytes table extent : ℕ) (slot now : Slot U) →
      found_at slots table extent ≡ Some slot → told now ≡ told slot → after ≡ with_cell table extent now slots → AreListed content slots lists bytes →
      AreListed content after lists bytes
  AreListed-alike slots after lists bytes table extent slot now found same made listed =
      let alike = TellsAlike-found slots table extent slot now found same in
      let has = HasCell-found slots table extent slot found in
      let one : current_bytes content (slot_at slots table extent).current ≡ current_bytes content now.current =
      ap (λ (s : Slot U). current_bytes content s.current) (sym (slot_at-found slots table extent slot found))
      ∙ bytes_told slot now (sym same) in
      let put = used_put slots table extent now has in
      let was = listed.used in
      subst (λ (s : List (List (Slot U))). AreListed content s lists bytes) (sym made) (record {
        marks = λ t e. listed.marks t e ∙ ap (λ (x : Told U). marks_of content x) (sym (alike.each t e));
        room = λ t e there. listed.room t e (HasCell-with_cell-back slots table extent now t e there);
        few = listed.few;
        used = omega (arith, was, put, one);
      })

  -- an extent has changed, and its marks were put
  pub AreListed-put : (slots after : List (List (Slot U))) (lists put : Lists) (bytes more table extent : ℕ) (now : Slot U) →
      HasCell slots table extent → after ≡ with_cell table extent now slots →
      put ≡ with_marks table extent (marks_of content (told now)) lists →
      more + current_bytes content (slot_at slots table extent).current ≡ bytes + current_bytes content now.current →
      AreListed content slots lists bytes → AreListed content after put more
  AreListed-put slots after lists put bytes more table extent now has made said moved listed =
      let marks : Marks = marks_of content (told now) in
      let room = listed.room table extent has in
      let sum = used_put slots table extent now has in
      let was = listed.used in
      rw (made, said) (record {
        marks = λ t e.
            ⊎_elim
            (λ (here : (t ≡ table) × (e ≡ extent)). rw (here.0, here.1)
            (marks_at-same lists table extent marks room
            ∙ ap (λ (s : Slot U). marks_of content (told s)) (sym (cell_at-with_cell_same nothing slots table extent now has))))
            (λ (apart : t ≡ table → e ≡ extent → ⊥).
            marks_at-other lists table extent marks t e apart
            ∙ (listed.marks t e ∙ ap (λ (s : Slot U). marks_of content (told s)) (sym (cell_at-with_cell_other nothing slots table extent now t e apart))))
            (same_cell table extent t e);
        room = λ t e there. HasMarks-put lists table extent marks t e (listed.room t e (HasCell-with_cell-back slots table extent now t e there));
        few = listed.few;
        used = omega (arith, was, sum, moved);
      })

  -- an extent has changed, but not its unit, and its marks were put
  pub AreListed-one : (f : Slot U → Slot U) (slots : List (List (Slot U))) (lists put : Lists) (bytes table extent : ℕ) (slot now : Slot U) (marks : Marks) →
      HasCell slots table extent → slot ≡ slot_at slots table extent → now ≡ f slot → marks ≡ marks_of content (told now) →
      put ≡ with_marks table extent marks lists → ((s : Slot U) → current_bytes content (f s).current ≡ current_bytes content s.current) →
      AreListed content slots lists bytes → AreListed content (with_cell table extent now slots) put bytes
  AreListed-one f slots lists put bytes table extent slot now marks has is changed said made same listed =
      let one = λ (s : Slot U). current_bytes content s.current in
      let here : one now ≡ one (slot_at slots table extent) = ap one changed ∙ (same slot ∙ ap one is) in
      AreListed-put slots _ lists put bytes bytes table extent now has refl
      (made ∙ ap (λ (m : Marks). with_marks table extent m lists) said) (omega (arith, here)) listed

  -- a note does not change the unit
  noted_bytes : (note : Note) (o : Option (Current U)) → current_bytes content (option_map (current_noted note) o) ≡ current_bytes content o
  noted_bytes note None = refl
  noted_bytes note (Some current) = refl

  pub slot_noted-bytes : (note : Note) (slot : Slot U) → current_bytes content (slot_noted note slot).current ≡ current_bytes content slot.current
  slot_noted-bytes note slot = noted_bytes note slot.current

  -- a table past the end has no extent that waits
  pub NoneWaits-past : (slots : List (List (Slot U))) (lists : Lists) (bytes table : ℕ) → AreListed content slots lists bytes → lists.tables ≤ table →
      NoneWaits table slots
  NoneWaits-past slots lists bytes table listed past = record {
    each = λ extent.
        ⊎_elim
        (λ (is : (slot_at slots table extent).waits ≡ true).
        let some = λ (none : slot_at slots table extent ≡ nothing). false≢true (sym (ap (λ (s : Slot U). s.waits) none) ∙ is) in
        let within = (listed.room table extent (HasCell-where nothing slots table extent some)).within in
        absurd (omega (arith, within, past)))
        (λ (off : (slot_at slots table extent).waits ≡ false). off)
        (cases_Bool (slot_at slots table extent).waits);
  }

  -- ---- a unit that leaves

  -- its bytes are among those of all units
  pub used_left : (slots : List (List (Slot U))) (lists : Lists) (bytes table extent : ℕ) (slot : Slot U) (less : ℕ) → HasCell slots table extent →
      slot ≡ slot_at slots table extent → less ≡ current_bytes content slot.current → AreListed content slots lists bytes → less ≤ bytes
  used_left slots lists bytes table extent slot less has is left listed =
      let part = used_part slots table extent has in
      let was = listed.used in
      let here = left ∙ ap (λ (s : Slot U). current_bytes content s.current) is in
      omega (arith, part, was, here)

  -- and go with it, and those of another that comes are added
  pub AreListed-left : (f : Slot U → Slot U) (slots : List (List (Slot U))) (lists put : Lists) (bytes more left table extent : ℕ) (slot now : Slot U)
      (marks : Marks) (less : ℕ) → HasCell slots table extent → slot ≡ slot_at slots table extent → now ≡ f slot →
      marks ≡ marks_of content (told now) → put ≡ with_marks table extent marks lists → less ≡ current_bytes content slot.current →
      current_bytes content (f slot).current ≡ more → left ≡ bytes + more - less → AreListed content slots lists bytes →
      AreListed content (with_cell table extent now slots) put left
  AreListed-left f slots lists put bytes more left table extent slot now marks less has is changed said made goes comes moved listed =
      let one = λ (s : Slot U). current_bytes content s.current in
      let part = used_left slots lists bytes table extent slot less has is goes listed in
      let before = goes ∙ ap one is in
      let after = ap one changed ∙ comes in
      AreListed-put slots _ lists put bytes left table extent now has refl
      (made ∙ ap (λ (m : Marks). with_marks table extent m lists) said) (omega (arith, part, before, after, moved)) listed

  -- the unit of a build that lives is current
  pub switched_bytes : (unit : Arc U Global) (o : Option Growing) → IsSome o →
      current_bytes content (option_map (current_grown unit) o) ≡ unit_bytes (content unit.value)
  switched_bytes unit None some = absurd (false≢true some)
  switched_bytes unit (Some growing) some = refl
