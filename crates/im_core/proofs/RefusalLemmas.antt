-- Refusals, as what is kept tells them.
use Rattle.std.proofs.Common.{◌≡◌, ℕ, suc, ◌+◌, ◌<◌, ◌≤◌, ◌&&◌, Bool, true, false, not, nat_lt, List, length, drop, drop-cons, is_some, slice_get, Option, Some, None, refl, sym, ap, ◌∙◌, arith}
use Rattle.std.proofs.lemmas.Bool.{false≢true}
use Rattle.std.proofs.lemmas.Bool.Decides.{nat_tests}
use Rattle.std.proofs.lemmas.Option.{get_or_from_slice_get}
use Rattle.std.specs.Option.{option_map, option_or}
use Rattle.im_values.specs.declared.limits.TheConstants.{MOST_CURSORS, MOST_TABLES}
use Rattle.im_history.specs.declared.change.Change.{Change}
use Rattle.im_history.specs.declared.look.TableInfo.{TableInfo}
use Rattle.im_history.specs.declared.refused.Why.{Why}
use Rattle.im_history.specs.declared.refused.Why.TheVariants.{TableExists, TooManyTables, CursorOpen, TooManyCursors, RowLocked, Serialize}
use Rattle.im_history.specs.Cursors.{is_cursor_open, is_own, cursors_open}
use Rattle.im_history.specs.History.{History}
use Rattle.im_history.specs.Refusals.{first_cause, when, asked_refusal, create_refusal, lock_on, open_refusal, touch_after}
use Rattle.im_history.specs.Tables.{tables, number_among, table_named}
use Rattle.im_history.specs.Touched.{last_touch}
use Rattle.im_txn.specs.Agrees.{Agrees}
use Rattle.im_txn.specs.Standing.{Standing, holder_in}
use Rattle.im_txn.proofs.ForCallers.{holder-by}

pub open_refused : (h : History) (who cursor : ℕ) (asked : Option ℕ) → is_cursor_open h who cursor ≡ true → Some CursorOpen ≡ open_refusal h who cursor asked
open_refused h who cursor asked opened = rw opened refl

pub too_many_open : (h : History) (who cursor : ℕ) (asked : Option ℕ) → is_cursor_open h who cursor ≡ false → is_own cursor ≡ false
    → MOST_CURSORS ≤ cursors_open h who → Some TooManyCursors ≡ open_refusal h who cursor asked
too_many_open h who cursor asked shut other many =
    let no : nat_lt (cursors_open h who) MOST_CURSORS ≡ false = grind (arith, nat_tests) in
    rw (shut, other, no) refl

-- where neither is so, it is the SCN that may refuse
pub may_open : (h : History) (who cursor : ℕ) (asked : Option ℕ) → is_cursor_open h who cursor ≡ false → cursors_open h who < MOST_CURSORS
    → asked_refusal h asked ≡ open_refusal h who cursor asked
may_open h who cursor asked shut few = by (is_own cursor)
  where
    room : nat_lt (cursors_open h who) MOST_CURSORS ≡ true
    room = grind (arith, nat_tests)

    by : (b : Bool)
        → asked_refusal h asked ≡ option_or (when (is_cursor_open h who cursor) CursorOpen)
        (option_or (when (not b && not (nat_lt (cursors_open h who) MOST_CURSORS)) TooManyCursors) (asked_refusal h asked))
    by true = rw shut refl
    by false = rw (shut, room) refl

pub may_open_own : (h : History) (who cursor : ℕ) (asked : Option ℕ) → is_cursor_open h who cursor ≡ false → is_own cursor ≡ true
    → asked_refusal h asked ≡ open_refusal h who cursor asked
may_open_own h who cursor asked shut own = rw (shut, own) refl

-- a table has the name
pub table_taken : (h : History) (name : List ℕ) (catalog : List TableInfo) (table : ℕ) → catalog ≡ tables h → number_among catalog name ≡ Some table
    → Some (TableExists table) ≡ create_refusal h name
table_taken h name catalog table same taken =
    let named : table_named h name ≡ Some table = ap (λ (ts : List TableInfo). number_among ts name) (sym same) ∙ taken in
    rw named refl

-- none has it
pub table_free : (h : History) (name : List ℕ) (catalog : List TableInfo) (b : Bool) → catalog ≡ tables h → number_among catalog name ≡ None
    → nat_lt (length catalog) MOST_TABLES ≡ b → when (not b) TooManyTables ≡ create_refusal h name
table_free h name catalog b same free room =
    let named : table_named h name ≡ None = ap (λ (ts : List TableInfo). number_among ts name) (sym same) ∙ free in
    let few : nat_lt (length (tables h)) MOST_TABLES ≡ b = ap (λ (ts : List TableInfo). nat_lt (length ts) MOST_TABLES) (sym same) ∙ room in
    rw (named, few) refl

-- the first cause is that of the change at a place, or of one behind it
pub first_cause-next : (cause : Change → Option Why) (changes : List Change) (i : ℕ) (change : Change) → slice_get changes i ≡ Some change →
    i < length changes → first_cause cause (drop i changes) ≡ option_or (cause change) (first_cause cause (drop (i + 1) changes))
first_cause-next cause changes i change is inside =
    let next : suc i ≡ i + 1 = omega arith in
    ap (first_cause cause) (drop-cons changes i change inside)
    ∙ (ap (λ (c : Change). option_or (cause c) (first_cause cause (drop (suc i) changes))) (get_or_from_slice_get changes i change change is)
    ∙ ap (λ (n : ℕ). option_or (cause change) (first_cause cause (drop n changes))) next)

-- the change at a place has a cause, and none before it has
pub first_cause-here : (cause : Change → Option Why) (changes : List Change) (i : ℕ) (change : Change) (found all : Option Why) →
    slice_get changes i ≡ Some change → i < length changes → found ≡ cause change → is_some found ≡ true → all ≡ first_cause cause (drop i changes) →
    found ≡ all
first_cause-here cause changes i change None all is inside here some from = absurd (false≢true some)
first_cause-here cause changes i change (Some why) all is inside here some from =
    sym (from ∙ (first_cause-next cause changes i change is inside ∙ ap (λ (o : Option Why). option_or o (first_cause cause (drop (i + 1) changes))) (sym here)))

-- it has none
pub first_cause-later : (cause : Change → Option Why) (changes : List Change) (i : ℕ) (change : Change) (found all : Option Why) →
    slice_get changes i ≡ Some change → i < length changes → found ≡ cause change → is_some found ≡ false → all ≡ first_cause cause (drop i changes) →
    all ≡ first_cause cause (drop (i + 1) changes)
first_cause-later cause changes i change None all is inside here none from =
    from ∙ (first_cause-next cause changes i change is inside ∙ ap (λ (o : Option Why). option_or o (first_cause cause (drop (i + 1) changes))) (sym here))
first_cause-later cause changes i change (Some why) all is inside here none from = absurd (false≢true (sym none))

-- the session that holds the row
pub lock_is : (h : History) (standing : Standing) (who : ℕ) (change : Change) (found : Option ℕ) → Agrees h standing
    → found ≡ holder_in standing who change.table change.rid → option_map (λ other. RowLocked change.rid other) found ≡ lock_on h who change
lock_is h standing who change found agrees is =
    ap (option_map (λ other. RowLocked change.rid other)) (is ∙ holder-by h standing who change.table change.rid agrees)

-- a commit after this SCN touched the row
pub touch_found : (h : History) (scn last : ℕ) (change : Change) → last ≡ last_touch h change.table change.rid → scn < last
    → Some (Serialize change.rid last) ≡ touch_after h scn change
touch_found h scn last change is later =
    let yes : nat_lt scn (last_touch h change.table change.rid) ≡ true = grind (arith, nat_tests) in
    rw (is, yes) refl

-- none did
pub touch_none : (h : History) (scn : ℕ) (change : Change) → last_touch h change.table change.rid ≤ scn → None ≡ touch_after h scn change
touch_none h scn change earlier =
    let no : nat_lt scn (last_touch h change.table change.rid) ≡ false = grind (arith, nat_tests) in
    rw no refl
