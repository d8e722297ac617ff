-- The last change of each row number: how it is kept, and what it says of the rows.
use Rattle.std.proofs.Common.{◌≡◌, ℕ, ◌+◌, ◌<◌, ◌≤◌, ◌==◌, ◌&&◌, Bool, true, false, cond, if◌then◌else◌, List, [], ◌∷◌, ◌++◌, length, get_or, Option, Some, None, refl, sym, ap, ◌∙◌, arith, append_assoc, All}
use Rattle.std.specs.BTreeMap.{is_at, insert_entry}
use Rattle.std.specs.BTreeMap.Range.{range_contains, entries_between}
use Rattle.std.specs.List.{AllByRecursion, fold}
use Rattle.std.specs.List.Sorted.{IsStrictlySortedBy}
use Rattle.std.specs.Map.{keys_of, lookup}
use Rattle.std.specs.Option.{unwrap_or}
use Rattle.std.specs.Ordering.{nat_cmp, is_eq, match_ordering}
use Rattle.std.specs.declared.cmp.Ordering.{Ordering}
use Rattle.std.specs.declared.ops.Bound.TheVariants.{Included, Excluded}
use Rattle.std.specs.declared.cmp.Ordering.TheVariants.{Less, Greater}
use Rattle.std.proofs.lemmas.Bool.Decides.{nat_tests}
use Rattle.std.proofs.lemmas.List.Elements.{All-nil, All-head, All-tail}
use Rattle.std.proofs.lemmas.List.Sums.{fold_push}
use Rattle.std.proofs.lemmas.Map.Entries.{lookup-filter-keys}
use Rattle.std.proofs.lemmas.Map.Keys.{sorted_head, sorted_tail}
use Rattle.im_history.specs.declared.change.Change.{Change}
use Rattle.im_history.specs.Last.{Slot, last_at, left_by, change_of, changes_of, AreLast, ArePut}
use Rattle.im_history.specs.Rows.{Row, row_after}

-- ---- kept in a map

same_test : (rid key : ℕ) → is_eq (nat_cmp rid key) ≡ (key == rid)
same_test rid key = grind (arith, nat_tests)

pub at-lookup : (slots : List Slot) (rid : ℕ) → lookup (is_at (nat_cmp rid)) slots ≡ last_at slots rid
at-lookup [] rid = refl
at-lookup (slot ∷ slots) rid = by (slot.0 == rid) (same_test rid slot.0) (at-lookup slots rid)
  where
    by : (b : Bool) → is_eq (nat_cmp rid slot.0) ≡ b → lookup (is_at (nat_cmp rid)) slots ≡ last_at slots rid
        → cond (is_eq (nat_cmp rid slot.0)) (Some slot.1) (lookup (is_at (nat_cmp rid)) slots)
        ≡ (if b then Some slot.1 else last_at slots rid)
    by true e rest = rw e refl
    by false e rest = rw e rest

-- a key behind others in order
last_key : (less : ℕ → Type 0) (slots : List Slot) (slot : Slot) (rest : List Slot)
    → AllByRecursion less (keys_of (slots ++ slot ∷ rest)) → less slot.0
last_key less [] slot rest all = all.0
last_key less (first ∷ slots) slot rest all = last_key less slots slot rest all.1

above : (key low : ℕ) → nat_cmp low key ≡ Less → nat_cmp key low ≡ Greater
above key low e = grind (arith, nat_tests, e)

pub insert-last : (slots : List Slot) (slot : Slot) (rest : List Slot)
    → IsStrictlySortedBy nat_cmp (keys_of (slots ++ slot ∷ rest))
    → insert_entry nat_cmp slots slot.0 slot.1 ≡ slots ++ slot ∷ []
insert-last [] slot rest sorted = refl
insert-last (first ∷ slots) slot rest sorted =
    let below = last_key (λ key. nat_cmp first.0 key ≡ Less) slots slot rest
    (sorted_head nat_cmp first.0 (keys_of (slots ++ slot ∷ rest)) sorted) in
    ap (λ (o : Ordering). match_ordering o ((slot.0, slot.1) ∷ first ∷ slots) ((first.0, slot.1) ∷ slots)
    (first ∷ insert_entry nat_cmp slots slot.0 slot.1)) (above slot.0 first.0 below)
    ∙ ap (λ (l : List Slot). first ∷ l)
    (insert-last slots slot rest (sorted_tail nat_cmp first.0 (keys_of (slots ++ slot ∷ rest)) sorted))

-- ---- the rows

-- one change more
pub change_of-push : (changes : List Change) (change : Change) (table rid : ℕ)
    → change_of (changes ++ change ∷ []) table rid ≡ left_by table rid (change_of changes table rid) change
change_of-push changes change table rid = fold_push (left_by table rid) None changes change

left-row : (table rid : ℕ) (row : Option Row) (left : Option (Option Row)) (changes : List Change)
    → unwrap_or (fold (left_by table rid) left changes) row ≡ fold (row_after table rid) (unwrap_or left row) changes
left-row table rid row left [] = refl
left-row table rid row left (change ∷ changes) =
    left-row table rid row (left_by table rid left change) changes
    ∙ ap (λ (r : Option Row). fold (row_after table rid) r changes) (by ((change.table == table) && (change.rid == rid)))
  where
    by : (b : Bool) → unwrap_or (if b then Some change.row else left) row ≡ (if b then change.row else unwrap_or left row)
    by true = refl
    by false = refl

-- rows changed by changes in order have at each row number what the last change to it left, or what stood there
pub last-suffices : (table rid : ℕ) (row : Option Row) (changes : List Change)
    → fold (row_after table rid) row changes ≡ unwrap_or (change_of changes table rid) row
last-suffices table rid row changes = sym (left-row table rid row None changes)

-- of the changes to a table the last ones are those of all changes, and to another table there are none
left-of : (table rid : ℕ) (left : Option (Option Row)) (changes : List Change)
    → fold (left_by table rid) left (changes_of table changes) ≡ fold (left_by table rid) left changes
left-of table rid left [] = refl
left-of table rid left (change ∷ changes) =
    by (change.table == table) refl (λ (so_far : Option (Option Row)). left-of table rid so_far changes)
  where
    by : (b : Bool) → (change.table == table) ≡ b
        → ((so_far : Option (Option Row)) → fold (left_by table rid) so_far (changes_of table changes) ≡ fold (left_by table rid) so_far changes)
        → fold (left_by table rid) left (if b then change ∷ changes_of table changes else changes_of table changes)
        ≡ fold (left_by table rid) (if b && (change.rid == rid) then Some change.row else left) changes
    by true e rest =
        ap (λ (b : Bool). fold (left_by table rid) (if b && (change.rid == rid) then Some change.row else left) (changes_of table changes)) e
        ∙ rest (if change.rid == rid then Some change.row else left)
    by false e rest = rest left

pub change_of-of : (table rid : ℕ) (changes : List Change)
    → change_of (changes_of table changes) table rid ≡ change_of changes table rid
change_of-of table rid changes = left-of table rid None changes

pub change_of-other : (table other rid : ℕ) (changes : List Change) → (other == table) ≡ false
    → change_of (changes_of other changes) table rid ≡ None
change_of-other table other rid [] apart = refl
change_of-other table other rid (change ∷ changes) apart = by (change.table == other) refl (change_of-other table other rid changes apart)
  where
    by : (b : Bool) → (change.table == other) ≡ b → change_of (changes_of other changes) table rid ≡ None
        → change_of (if b then change ∷ changes_of other changes else changes_of other changes) table rid ≡ None
    by true e rest =
        let not_here : (change.table == table) ≡ false = grind (arith, nat_tests, e, apart) in
        ap (λ (b : Bool). fold (left_by table rid) (if b && (change.rid == rid) then Some change.row else None) (changes_of other changes)) not_here
        ∙ rest
    by false e rest = rest

-- ---- a range of row numbers

pub in_range : (first count rid : ℕ) → first ≤ rid → rid < first + count
    → (key : ℕ) → is_at (nat_cmp rid) key ≡ true → range_contains nat_cmp (Included first) (Excluded (first + count)) key ≡ true
in_range first count rid from below key e = grind (arith, nat_tests, e, from, below)

-- ---- a change put

pub put-last : (slots new : List Slot) (rid : ℕ) (row : Option Row)
    → ((key : ℕ) → lookup (is_at (nat_cmp key)) new ≡ cond (is_at (nat_cmp rid) key) (Some row) (lookup (is_at (nat_cmp key)) slots))
    → (other : ℕ) → last_at new other ≡ (if rid == other then Some row else last_at slots other)
put-last slots new rid row put other =
    sym (at-lookup new other)
    ∙ (put other
    ∙ by (rid == other) (is_eq (nat_cmp rid other)) (at-lookup slots other) (same_test rid other ∙ turned))
  where
    turned : (other == rid) ≡ (rid == other)
    turned = grind (arith, nat_tests)

    by : (b d : Bool) → lookup (is_at (nat_cmp other)) slots ≡ last_at slots other → d ≡ b
        → cond d (Some row) (lookup (is_at (nat_cmp other)) slots) ≡ (if b then Some row else last_at slots other)
    by true true is e = refl
    by false false is e = is
    by true false is e = absurd cc
    by false true is e = absurd cc

pub range-found : (slots found : List Slot) (first count : ℕ)
    → found ≡ entries_between nat_cmp (Included first) (Excluded (first + count)) slots
    → (rid : ℕ) → first ≤ rid → rid < first + count → last_at found rid ≡ last_at slots rid
range-found slots found first count is rid from below =
    sym (at-lookup found rid)
    ∙ (ap (lookup (is_at (nat_cmp rid))) is
    ∙ (lookup-filter-keys (is_at (nat_cmp rid)) (range_contains nat_cmp (Included first) (Excluded (first + count))) true
    (in_range first count rid from below) slots
    ∙ at-lookup slots rid))

-- a slot behind others in order
pub copied-more : (copies new rest all : List Slot) (slot : Slot) → copies ++ slot ∷ rest ≡ all
    → IsStrictlySortedBy nat_cmp (keys_of all) → new ≡ insert_entry nat_cmp copies slot.0 slot.1 → new ++ rest ≡ all
copied-more copies new rest all slot is rising put =
    ap (λ (l : List Slot). l ++ rest) (put ∙ insert-last copies slot rest (rw (← is) at rising))
    ∙ (append_assoc copies (slot ∷ []) rest ∙ is)

-- ---- own changes

-- of changes of which these are the last, to the table that they are to
pub own-last : (changes : List Change) (last found : List Slot) (table first count : ℕ)
    → ((rid : ℕ) → last_at last rid ≡ change_of changes table rid)
    → ((rid : ℕ) → first ≤ rid → rid < first + count → last_at found rid ≡ last_at last rid)
    → All (λ (slot : Slot). last_at last slot.0 ≡ Some slot.1) found
    → All (λ (slot : Slot). (first ≤ slot.0) × (slot.0 < first + count)) found
    → AreLast (changes_of table changes) table first count found
own-last changes last found table first count are looks each within = record {
  found = λ rid from below. looks rid from below ∙ (are rid ∙ sym (change_of-of table rid changes));
  each = λ k d inside. change_of-of table _ changes ∙ (sym (are _) ∙ each k d inside);
  within = within;
}

-- and to another table
pub other-last : (changes : List Change) (own table first count : ℕ) → (table == own) ≡ false
    → AreLast (changes_of own changes) table first count []
other-last changes own table first count apart = record {
  found = λ rid from below. sym (change_of-other table own rid changes (turned (own == table) (table == own) refl refl apart));
  each = All-nil _;
  within = All-nil _;
}
  where
    turned : (b d : Bool) → (own == table) ≡ b → (table == own) ≡ d → d ≡ false → (own == table) ≡ false
    turned true d e f none = grind (arith, nat_tests, e, f, none)
    turned false d e f none = e

-- among no row numbers there is none
pub none-within : (slots : List Slot) (first : ℕ) → All (λ (slot : Slot). (first ≤ slot.0) × (slot.0 < first + 0)) slots → slots ≡ []
none-within [] first within = refl
none-within (slot ∷ slots) first within =
    let here = All-head (λ (s : Slot). (first ≤ s.0) × (s.0 < first + 0)) slot slots within in
    let from = here.0 in
    let below = here.1 in
    absurd (omega (arith, from, below))

-- ---- the last changes put over rows

-- none is put
pub put-none : (changes : List Change) (table first count : ℕ) (slots : List Slot) (before : List (Option Row))
    → AreLast changes table first count slots → length before ≤ count → ArePut changes table first slots before before
put-none changes table first count slots before last few = record {
  long = refl;
  each = last.each;
  at =
      λ place within. ap (λ (o : Option (Option Row)). unwrap_or o (get_or before place None))
      (last.found (first + place) (omega arith) (omega (arith, within, few)));
}

last-each : (changes : List Change) (table rid : ℕ) (row : Option Row) (slots : List Slot)
    → All (λ (slot : Slot). change_of changes table slot.0 ≡ Some slot.1) slots → last_at slots rid ≡ Some row
    → change_of changes table rid ≡ Some row
last-each changes table rid row [] each is = absurd cc
last-each changes table rid row (slot ∷ slots) each is =
    by (slot.0 == rid) refl is
    (last-each changes table rid row slots (All-tail (λ (s : Slot). change_of changes table s.0 ≡ Some s.1) slot slots each))
  where
    by : (b : Bool) → (slot.0 == rid) ≡ b → (if b then Some slot.1 else last_at slots rid) ≡ Some row
        → (last_at slots rid ≡ Some row → change_of changes table rid ≡ Some row) → change_of changes table rid ≡ Some row
    by true e here later =
        let same : slot.0 ≡ rid = grind (arith, nat_tests, e) in
        rw (← same) (All-head (λ (s : Slot). change_of changes table s.0 ≡ Some s.1) slot slots each ∙ here)
    by false e there later = later there

-- one more is put
pub put-more : (changes : List Change) (table first : ℕ) (slot : Slot) (left : List Slot) (before now new : List (Option Row))
    → ArePut changes table first (slot ∷ left) before now → length new ≡ length now
    → ((place : ℕ) → place < length now → get_or new place None ≡ (if slot.0 == first + place then slot.1 else get_or now place None))
    → ArePut changes table first left before new
put-more changes table first slot left before now new are long put = record {
  long = long ∙ are.long;
  each = rest;
  at =
      λ place within.
      ap (λ (row : Option Row). unwrap_or (last_at left (first + place)) row) (put place (let same = are.long in omega (arith, within, same)))
      ∙ (by place (slot.0 == first + place) refl (last_at left (first + place)) refl ∙ are.at place within);
}
  where
    rest : All (λ (s : Slot). change_of changes table s.0 ≡ Some s.1) left
    rest = All-tail (λ (s : Slot). change_of changes table s.0 ≡ Some s.1) slot left are.each

    here : change_of changes table slot.0 ≡ Some slot.1
    here = All-head (λ (s : Slot). change_of changes table s.0 ≡ Some s.1) slot left are.each

    by : (place : ℕ) (b : Bool) → (slot.0 == first + place) ≡ b → (later : Option (Option Row)) → last_at left (first + place) ≡ later
        → unwrap_or later (if b then slot.1 else get_or now place None)
        ≡ unwrap_or (if b then Some slot.1 else later) (get_or now place None)
    by place true e None is = refl
    by place true e (Some row) is =
        let same : slot.0 ≡ first + place = grind (arith, nat_tests, e) in
        let there : change_of changes table (first + place) ≡ Some row = last-each changes table (first + place) row left rest is in
        let both : Some row ≡ Some slot.1 = sym there ∙ (ap (change_of changes table) (sym same) ∙ here) in
        ap (λ (o : Option (Option Row)). unwrap_or o None) both
    by place false e later is = refl

-- all are put: at each place stands what the changes in order make of what stood there
pub put-all : (changes : List Change) (table first : ℕ) (before now : List (Option Row)) → ArePut changes table first [] before now
    → (place : ℕ) → place < length before → get_or now place None ≡ fold (row_after table (first + place)) (get_or before place None) changes
put-all changes table first before now are place within =
    are.at place within ∙ sym (last-suffices table (first + place) (get_or before place None) changes)
