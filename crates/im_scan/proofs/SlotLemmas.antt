-- The rows of an extent as they are gathered: each slot has what a scan takes at its row number.
use Rattle.std.proofs.Common.{◌≡◌, ℕ, suc, ◌+◌, ◌-◌, ◌<◌, ◌≤◌, ◌==◌, ◌&&◌, Bool, true, false, if◌then◌else◌, List, [], ◌∷◌, ◌++◌, length, take, drop, get_or, Option, Some, None, refl, sym, ap, ◌∙◌, ⊎_elim, arith, append_assoc, append-nil}
use Rattle.std.specs.Prelude.{nat_lt, slice_set}
use Rattle.std.specs.List.{fold, cons_option}
use Rattle.std.specs.Option.{option_map, unwrap_or}
use Rattle.std.proofs.lemmas.Bool.{cases_lt}
use Rattle.std.proofs.lemmas.Bool.Decides.{nat_tests}
use Rattle.std.proofs.lemmas.List.{take_all, take_more, drop_all, get_or-set_same, get_or-set_other, length-set, length-take-le, ext_get_or}
use Rattle.std.proofs.lemmas.List.FromFn.{length-map-range_with_len, get_or-map-range_with_len, map-range_with_len_more}
use Rattle.std.proofs.lemmas.List.Elements.{All-nil}
use Rattle.im_history.specs.declared.change.Change.{Change}
use Rattle.im_history.specs.declared.view.View.{View}
use Rattle.im_history.specs.Last.{Slot, ArePut, change_of}
use Rattle.im_history.specs.Rows.{Row, row_after, present}
use Rattle.im_history.proofs.LastLaws.{put-more, put-all}
use Rattle.im_history.specs.Units.{Content}
use Rattle.im_group.specs.Partials.{Numbered}
use Rattle.im_scan.specs.Parts.{row_in_unit, fetched_after}
use Rattle.im_scan.specs.inner.Steps.{ArePutBehind, IsUnchanged, gathered, laid_row, numbered, numbered_from, put_at, unit_rows, with_change, with_changes, with_fetched}

-- ---- one row put

pub put-from : (first : ℕ) (slots : List (Option Row)) (rid : ℕ) (row : Option Row) → first ≤ rid
    → slice_set slots (rid - first) row ≡ put_at first slots rid row
put-from first slots rid row from =
    let inside : nat_lt rid first ≡ false = grind (arith, nat_tests) in
    ap (λ (b : Bool). if b then slots else slice_set slots (rid - first) row) (sym inside)

length-put_at : (first : ℕ) (slots : List (Option Row)) (rid : ℕ) (row : Option Row)
    → length (put_at first slots rid row) ≡ length slots
length-put_at first slots rid row = by (nat_lt rid first)
  where
    by : (b : Bool) → length (if b then slots else slice_set slots (rid - first) row) ≡ length slots
    by true = refl
    by false = length-set slots (rid - first) row

at-set : (slots : List (Option Row)) (first rid i : ℕ) (row : Option Row) → first ≤ rid → i < length slots
    → get_or (slice_set slots (rid - first) row) i None ≡ (if rid == first + i then row else get_or slots i None)
at-set slots first rid i row from within = by (rid == first + i) refl
  where
    by : (b : Bool) → (rid == first + i) ≡ b
        → get_or (slice_set slots (rid - first) row) i None ≡ (if b then row else get_or slots i None)
    by true e =
        let here : rid - first ≡ i = grind (arith, nat_tests, e) in
        rw here (get_or-set_same slots i row None within)
    by false e =
        let other : i ≡ rid - first → ⊥ = λ same. grind (arith, nat_tests, e, same, from) in
        get_or-set_other slots (rid - first) i row None other

at-put_at : (first : ℕ) (slots : List (Option Row)) (rid i : ℕ) (row : Option Row) → i < length slots
    → get_or (put_at first slots rid row) i None ≡ (if rid == first + i then row else get_or slots i None)
at-put_at first slots rid i row within =
    ⊎_elim
    (λ (below : rid < first).
    let out : nat_lt rid first ≡ true = grind (arith, nat_tests) in
    let other : (rid == first + i) ≡ false = grind (arith, nat_tests) in
    ap (λ (b : Bool). get_or (if b then slots else slice_set slots (rid - first) row) i None) out
    ∙ ap (λ (b : Bool). if b then row else get_or slots i None) (sym other))
    (λ (from : first ≤ rid).
    let inside : nat_lt rid first ≡ false = grind (arith, nat_tests) in
    ap (λ (b : Bool). get_or (if b then slots else slice_set slots (rid - first) row) i None) inside
    ∙ at-set slots first rid i row from within)
    (cases_lt rid first)

-- ---- what a unit has, one row number more

pub unit_rows-more : (unit : Option Content) (first rid : ℕ) (row : Option Row) (slots longer : List (Option Row))
    → first ≤ rid → slots ≡ unit_rows unit first (rid - first) → row ≡ row_in_unit unit rid
    → longer ≡ slots ++ row ∷ [] → longer ≡ unit_rows unit first (rid + 1 - first)
unit_rows-more unit first rid row slots longer from so_far is pushed =
    let more : rid - first + 1 ≡ rid + 1 - first = omega (arith, from) in
    let here : first + (rid - first) ≡ rid = omega (arith, from) in
    pushed
    ∙ (ap (λ (l : List (Option Row)). l ++ row ∷ []) so_far
    ∙ (ap (λ (r : Option Row). unit_rows unit first (rid - first) ++ r ∷ []) is
    ∙ (sym (map-range_with_len_more (row_in_unit unit) first (rid - first) rid here)
    ∙ ap (unit_rows unit first) more)))

-- ---- all that was fetched, and all changes

pub length-with_fetched : (first : ℕ) (slots : List (Option Row)) (fetched : List (ℕ × Option Row))
    → length (with_fetched first slots fetched) ≡ length slots
length-with_fetched first slots [] = refl
length-with_fetched first slots (f ∷ fetched) =
    length-with_fetched first (put_at first slots f.0 f.1) fetched ∙ length-put_at first slots f.0 f.1

pub at-with_fetched : (first : ℕ) (slots : List (Option Row)) (fetched : List (ℕ × Option Row)) (i : ℕ) → i < length slots
    → get_or (with_fetched first slots fetched) i None ≡ fold (fetched_after (first + i)) (get_or slots i None) fetched
at-with_fetched first slots [] i within = refl
at-with_fetched first slots (f ∷ fetched) i within =
    at-with_fetched first (put_at first slots f.0 f.1) fetched i
    (let same = length-put_at first slots f.0 f.1 in omega (arith, same, within))
    ∙ ap (λ (row : Option Row). fold (fetched_after (first + i)) row fetched) (at-put_at first slots f.0 i f.1 within)

length-with_change : (table first : ℕ) (slots : List (Option Row)) (change : Change)
    → length (with_change table first slots change) ≡ length slots
length-with_change table first slots change = by (change.table == table)
  where
    by : (b : Bool) → length (if b then put_at first slots change.rid change.row else slots) ≡ length slots
    by true = length-put_at first slots change.rid change.row
    by false = refl

at-with_change : (table first : ℕ) (slots : List (Option Row)) (change : Change) (i : ℕ) → i < length slots
    → get_or (with_change table first slots change) i None ≡ row_after table (first + i) (get_or slots i None) change
at-with_change table first slots change i within = by (change.table == table)
  where
    by : (b : Bool)
        → get_or (if b then put_at first slots change.rid change.row else slots) i None ≡
        (if b && (change.rid == first + i) then change.row else get_or slots i None)
    by true = at-put_at first slots change.rid i change.row within
    by false = refl

pub length-with_changes : (table first : ℕ) (slots : List (Option Row)) (changes : List Change)
    → length (with_changes table first slots changes) ≡ length slots
length-with_changes table first slots [] = refl
length-with_changes table first slots (change ∷ changes) =
    length-with_changes table first (with_change table first slots change) changes ∙ length-with_change table first slots change

at-with_changes : (table first : ℕ) (slots : List (Option Row)) (changes : List Change) (i : ℕ) → i < length slots
    → get_or (with_changes table first slots changes) i None ≡ fold (row_after table (first + i)) (get_or slots i None) changes
at-with_changes table first slots [] i within = refl
at-with_changes table first slots (change ∷ changes) i within =
    at-with_changes table first (with_change table first slots change) changes i
    (let same = length-with_change table first slots change in omega (arith, same, within))
    ∙ ap (λ (row : Option Row). fold (row_after table (first + i)) row changes)
    (at-with_change table first slots change i within)

-- ---- what the own changes left

pub own-more : (view : View) (first rid : ℕ) (row : Option Row) (left : List Slot) (before now new : List (Option Row))
    → ArePut view.own view.table first ((rid, row) ∷ left) before now → new ≡ put_at first now rid row
    → ArePut view.own view.table first left before new
own-more view first rid row left before now new are is =
    put-more view.own view.table first (rid, row) left before now new are (ap length is ∙ length-put_at first now rid row)
    (λ place within. ap (λ (l : List (Option Row)). get_or l place None) is ∙ at-put_at first now rid place row within)

pub own-all : (view : View) (first : ℕ) (before now : List (Option Row)) → ArePut view.own view.table first [] before now
    → now ≡ with_changes view.table first before view.own
own-all view first before now are =
    ext_get_or None now (with_changes view.table first before view.own)
    (are.long ∙ sym (length-with_changes view.table first before view.own))
    (λ place within.
    let inside : place < length before = let long = are.long in omega (arith, within, long) in
    put-all view.own view.table first before now are place inside ∙ sym (at-with_changes view.table first before view.own place inside))

-- where the view changed none of the row numbers, nothing changes
pub own-none : (view : View) (first count : ℕ) (slots : List (Option Row)) → IsUnchanged view first count → length slots ≡ count
    → with_changes view.table first slots view.own ≡ slots
own-none view first count slots none long =
    sym (own-all view first slots slots (record {
      long = refl;
      each = All-nil (λ (slot : Slot). change_of view.own view.table slot.0 ≡ Some slot.1);
      at = λ place within.
          ap (λ (o : Option (Option Row)). unwrap_or o (get_or slots place None))
          (sym (none.none (first + place) (omega arith) (omega (arith, within, long))));
    }))

-- ---- what is gathered

-- the slots are those that a scan takes at so many row numbers from the first on
pub record AreTaken (unit : Option Content) (fetched : List (ℕ × Option Row)) (view : View) (first count : ℕ)
    (slots : List (Option Row)) : Type 0 where
  pub long : length slots ≡ count
  pub at : (i : ℕ) → i < length slots → get_or slots i None ≡ laid_row unit fetched view (first + i)

pub are_taken : (unit : Option Content) (fetched : List (ℕ × Option Row)) (view : View) (first count : ℕ)
    → AreTaken unit fetched view first count (gathered unit fetched view first count)
are_taken unit fetched view first count = record {
  long = all;
  at = λ i within. let inside : i < count = omega (arith, within, all) in each i inside;
}
  where
    shown : List (Option Row)
    shown = unit_rows unit first count

    shown_long : length shown ≡ count
    shown_long = length-map-range_with_len (row_in_unit unit) first count

    fetched_long : length (with_fetched first shown fetched) ≡ count
    fetched_long = length-with_fetched first shown fetched ∙ shown_long

    all : length (gathered unit fetched view first count) ≡ count
    all = length-with_changes view.table first (with_fetched first shown fetched) view.own ∙ fetched_long

    each : (i : ℕ) → i < count
        → get_or (gathered unit fetched view first count) i None ≡ laid_row unit fetched view (first + i)
    each i inside =
        at-with_changes view.table first (with_fetched first shown fetched) view.own i (omega (arith, inside, fetched_long))
        ∙ ap (λ (row : Option Row). fold (row_after view.table (first + i)) row view.own)
        (at-with_fetched first shown fetched i (omega (arith, inside, shown_long))
        ∙ ap (λ (row : Option Row). fold (fetched_after (first + i)) row fetched)
        (get_or-map-range_with_len (row_in_unit unit) first count i (first + i) None inside refl))

-- a vector after a call that changed its slice, keeping its length
written_back : {X : Type 0} (n : ℕ) (xs ys : List X) → n ≡ length ys → length xs ≡ length ys
    → take n (xs ++ drop (length xs) ys) ≡ xs
written_back n xs ys n_is long =
    let none : drop (length xs) ys ≡ [] = drop_all (length xs) ys (omega (arith, long)) in
    rw (none, append-nil xs) (take_all n xs (omega (arith, n_is, long)))

-- what was fetched, put over what the unit has
pub fetched-back : (unit : Option Content) (fetched : List (ℕ × Option Row)) (first count n : ℕ) (slots new : List (Option Row))
    → n ≡ length slots → slots ≡ unit_rows unit first count → new ≡ with_fetched first slots fetched
    → take n (new ++ drop (length new) slots) ≡ with_fetched first (unit_rows unit first count) fetched
fetched-back unit fetched first count n slots new n_is shown put =
    written_back n new slots n_is (ap length put ∙ length-with_fetched first slots fetched)
    ∙ (put ∙ ap (λ (l : List (Option Row)). with_fetched first l fetched) shown)

-- what is put behind others is put over them
with_fetched-append : (first : ℕ) (slots : List (Option Row)) (rows more : List (ℕ × Option Row))
    → with_fetched first slots (rows ++ more) ≡ with_fetched first (with_fetched first slots rows) more
with_fetched-append first slots [] more = refl
with_fetched-append first slots (row ∷ rows) more = with_fetched-append first (put_at first slots row.0 row.1) rows more

own-put : (view : View) (first : ℕ) (left : List Slot) (before now : List (Option Row)) → ArePut view.own view.table first left before now
    → with_fetched first now left ≡ with_changes view.table first before view.own
own-put view first [] before now are = own-all view first before now are
own-put view first (slot ∷ left) before now are =
    own-put view first left before (put_at first now slot.0 slot.1)
    (own-more view first slot.0 slot.1 left before now (put_at first now slot.0 slot.1) are refl)

-- what the own changes left, put over what was fetched, is gathered
pub gathered-own : (unit : Option Content) (fetched : List (ℕ × Option Row)) (view : View) (first count : ℕ) (rows : List (ℕ × Option Row))
    → ArePutBehind view first count fetched rows
    → with_fetched first (unit_rows unit first count) rows ≡ gathered unit fetched view first count
gathered-own unit fetched view first count rows are =
    ap (with_fetched first (unit_rows unit first count)) are.is
    ∙ (with_fetched-append first (unit_rows unit first count) fetched are.own ∙ own-put view first are.own before before none)
  where
    before : List (Option Row)
    before = with_fetched first (unit_rows unit first count) fetched

    long : length before ≡ count
    long = length-with_fetched first (unit_rows unit first count) fetched ∙ length-map-range_with_len (row_in_unit unit) first count

    none : ArePut view.own view.table first are.own before before
    none = record {
      long = refl;
      each = are.last.each;
      at = λ place within.
          ap (λ (o : Option (Option Row)). unwrap_or o (get_or before place None))
          (are.last.found (first + place) (omega arith) (omega (arith, within, long)));
    }

-- ---- those that there are

pub numbered_from-present : (row_at : ℕ → Option Row) (first : ℕ) (slots : List (Option Row))
    → ((i : ℕ) → i < length slots → get_or slots i None ≡ row_at (first + i))
    → numbered_from first slots ≡ present row_at first (length slots)
numbered_from-present row_at first [] each = refl
numbered_from-present row_at first (slot ∷ slots) each =
    let head : slot ≡ row_at first = each 0 (omega arith) ∙ ap row_at (omega arith) in
    ap (λ (l : List Numbered). numbered first slot ++ l)
    (numbered_from-present row_at (first + 1) slots
    (λ i within. each (suc i) (omega (arith, within)) ∙ ap row_at (omega arith)))
    ∙ by slot head
  where
    later : List Numbered
    later = present row_at (first + 1) (length slots)

    by : (o : Option Row) → o ≡ row_at first
        → numbered first o ++ later ≡ cons_option (option_map (λ row. (first, row)) (row_at first)) later
    by None e = rw (← e) refl
    by (Some row) e = rw (← e) refl

pub gathered-present : (unit : Option Content) (fetched : List (ℕ × Option Row)) (view : View) (first count : ℕ)
    → numbered_from first (gathered unit fetched view first count) ≡ present (laid_row unit fetched view) first count
gathered-present unit fetched view first count =
    let taken = are_taken unit fetched view first count in
    numbered_from-present (laid_row unit fetched view) first (gathered unit fetched view first count) taken.at
    ∙ ap (present (laid_row unit fetched view) first) taken.long

-- ---- one more row numbered

pub numbered_from-push : (first : ℕ) (slots : List (Option Row)) (slot : Option Row) (rid : ℕ) → first + length slots ≡ rid
    → numbered_from first (slots ++ slot ∷ []) ≡ numbered_from first slots ++ numbered rid slot
numbered_from-push first [] slot rid is =
    ap (λ (n : ℕ). numbered n slot ++ []) (omega (arith, is)) ∙ nothing (numbered rid slot)
  where
    nothing : (rows : List Numbered) → rows ++ [] ≡ rows
    nothing [] = refl
    nothing (row ∷ rows) = ap (λ (l : List Numbered). row ∷ l) (nothing rows)
numbered_from-push first (s ∷ slots) slot rid is =
    ap (λ (l : List Numbered). numbered first s ++ l) (numbered_from-push (first + 1) slots slot rid (omega (arith, is)))
    ∙ sym (append_assoc (numbered first s) (numbered_from (first + 1) slots) (numbered rid slot))

pub numbered-more : (first : ℕ) (slots : List (Option Row)) (i : ℕ) (row : Option Row) (rows longer : List Numbered)
    → i < length slots → row ≡ get_or slots i row → rows ≡ numbered_from first (take i slots)
    → longer ≡ rows ++ numbered (first + i) row
    → longer ≡ numbered_from first (take (i + 1) slots)
numbered-more first slots i row rows longer within is so_far pushed =
    pushed
    ∙ (ap (λ (l : List Numbered). l ++ numbered (first + i) row) so_far
    ∙ (sym (numbered_from-push first (take i slots) row (first + i) long)
    ∙ ap (numbered_from first)
    (sym (take_more slots i row within ∙ ap (λ (r : Option Row). take i slots ++ r ∷ []) (sym is)))))
  where
    long : first + length (take i slots) ≡ first + i
    long = ap (λ (n : ℕ). first + n) (length-take-le i slots (omega (arith, within)))
