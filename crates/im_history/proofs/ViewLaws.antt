-- In a legal history the view of an open cursor has the first columns that its table has.
use Rattle.std.proofs.Common.{◌≡◌, ℕ, ◌==◌, ◌≤◌, Bool, true, false, not, nat_lt, if◌then◌else◌, List, [], ◌∷◌, ◌++◌, length, take, drop, All, Option, Some, None, refl, sym, ap, subst, ◌∙◌, length-append, arith}
use Rattle.std.specs.List.{find}
use Rattle.std.specs.Option.{option_or}
use Rattle.std.proofs.lemmas.Bool.Decides.{nat_tests}
use Rattle.std.proofs.lemmas.List.{take-append-drop, take-append-le, take_all}
use Rattle.std.proofs.lemmas.List.Elements.{All-nil, All-cons, All-append, All-filter, All-head, All-tail, All-weaker}
use Rattle.im_history.specs.declared.entry.Entry.{Entry}
use Rattle.im_history.specs.declared.entry.Mode.{Mode}
use Rattle.im_history.specs.declared.entry.Mode.TheVariants.{Committed, Serializable, ReadOnly}
use Rattle.im_history.specs.declared.entry.What.{What}
use Rattle.im_history.specs.declared.entry.What.TheVariants.{Open, Shut}
use Rattle.im_history.specs.declared.limits.Limits.{Limits}
use Rattle.im_history.specs.declared.look.TableInfo.{TableInfo}
use Rattle.im_history.specs.declared.refused.Why.{Why}
use Rattle.im_history.specs.declared.refused.Why.TheVariants.{NoSuchScn, SnapshotTooOld}
use Rattle.im_history.specs.declared.view.View.{View}
use Rattle.im_history.specs.Columns.{columns_at, columns_of}
use Rattle.im_history.specs.Commits.{commits, scn}
use Rattle.im_history.specs.Cursors.{Opened, cursor_at, is_cursor, opened, opened_after}
use Rattle.im_history.specs.History.{History, replay}
use Rattle.im_history.specs.Horizon.{horizon}
use Rattle.im_history.specs.Legal.{Exists, IsAllowed, IsLegal}
use Rattle.im_history.specs.Rows.{scn_at, snapshot, snapshot_under}
use Rattle.im_history.specs.Tables.{table_at}
use Rattle.im_history.specs.Transactions.{begun, mode}
use Rattle.im_history.specs.Refusals.{asked_refusal, open_refusal, when}
use Rattle.im_history.specs.Views.{defaults_of, reads_at, schema_of, view_at}
use Rattle.im_history.proofs.ColumnLaws.{columns_at-few, columns_at-push, defaults-long}
use Rattle.im_history.proofs.Laws.{IsLegal-pop, opened-push, scn-push}
use Rattle.im_history.proofs.RowLaws.{commits-append, each_history, each_longer}
use Rattle.im_history.proofs.TableLaws.{new_columns, new_defaults, table-grows}

-- a snapshot was reached
scn_at-reached : (h : History) (place : ℕ) → scn_at h place ≤ scn h
scn_at-reached h place =
    let on = commits-append (take place h) (drop place h) in
    let long = ap length on.is ∙ length-append (commits (take place h)) on.later in
    subst (λ (l : History). scn (take place h) ≤ scn l) (take-append-drop place h) (omega (arith, long))

under-reached : (h : History) (mode : Mode) (began : Option ℕ) → snapshot_under h mode began ≤ scn h
under-reached h Committed began = omega arith
under-reached h Serializable None = omega arith
under-reached h Serializable (Some place) = scn_at-reached h place
under-reached h ReadOnly None = omega arith
under-reached h ReadOnly (Some place) = scn_at-reached h place

pub snapshot-reached : (h : History) (who : ℕ) → snapshot h who ≤ scn h
snapshot-reached h who = under-reached h (mode h who) (begun h who)

-- of two causes none applies
right-none : (a b : Option Why) → option_or a b ≡ None → b ≡ None
right-none None b e = e
right-none (Some w) b e = cc

left-none : (a b : Option Why) → option_or a b ≡ None → a ≡ None
left-none None b e = refl
left-none (Some w) b e = e

when-none : (b : Bool) (why : Why) → when b why ≡ None → b ≡ false
when-none true why e = cc
when-none false why e = refl

-- where nothing refuses an opening, nothing refuses the SCN that it asks for
pub open-asked : (h : History) (who cursor : ℕ) (asked : Option ℕ) → open_refusal h who cursor asked ≡ None → asked_refusal h asked ≡ None
open-asked h who cursor asked allowed = right-none _ _ (right-none _ _ allowed)

-- such an SCN was reached, and is not below the horizon
pub asked-within : (h : History) (asked : ℕ) → asked_refusal h (Some asked) ≡ None → (horizon h ≤ asked) × (asked ≤ scn h)
asked-within h asked allowed =
    let above : nat_lt (scn h) asked ≡ false = when-none (nat_lt (scn h) asked) (NoSuchScn asked (scn h)) (left-none (when (nat_lt (scn h) asked) (NoSuchScn asked (scn h))) _ allowed) in
    let below : nat_lt asked (horizon h) ≡ false = when-none (nat_lt asked (horizon h)) (SnapshotTooOld asked (horizon h)) (right-none _ _ allowed) in
    (grind (arith, nat_tests, below), grind (arith, nat_tests, above))

pub asked-reached : (h : History) (who : ℕ) (asked : Option ℕ) → asked_refusal h asked ≡ None → reads_at h who asked ≤ scn h
asked-reached h who None allowed = snapshot-reached h who
asked-reached h who (Some asked) allowed = (asked-within h asked allowed).1

-- the table of a view exists, and has the columns and the defaults that the view has before those that it got since. The view reads at an
-- SCN that was reached, and has all columns that the table had there
pub record HasColumns (h : History) (view : View) : Type 0 where
  pub made : TableInfo
  pub is : table_at h view.table ≡ Some made
  pub columns : view.columns ≡ take (length view.columns) made.schema
  pub defaults : view.defaults ≡ take (length view.columns) made.defaults
  pub few : length view.columns ≤ length made.schema
  pub enough : columns_at h view.table view.scn ≤ length view.columns
  pub reached : view.scn ≤ scn h

-- an opening fixes the columns that the table has
pub HasColumns-view : (h : History) (who table : ℕ) (asked : Option ℕ) → Exists h table → reads_at h who asked ≤ scn h
    → HasColumns h (view_at h who table asked)
HasColumns-view h who table asked exists upto =
    let wide : schema_of (table_at h table) ≡ exists.made.schema = ap schema_of exists.is in
    let width : columns_of (table_at h table) ≡ length exists.made.schema = ap length wide in
    let long = defaults-long h table exists.made exists.is in
    let few = columns_at-few h table (reads_at h who asked) in
    record {
      made = exists.made;
      is = exists.is;
      columns = wide ∙ sym (take_all (columns_of (table_at h table)) exists.made.schema (omega (arith, width)));
      defaults = ap defaults_of exists.is ∙ sym (take_all (columns_of (table_at h table)) exists.made.defaults (omega (arith, width, long)));
      few = omega (arith, width);
      enough = few;
      reached = upto;
    }

-- and it goes on to have them
pub HasColumns-push : (h : History) (entry : Entry) (view : View) → HasColumns h view → HasColumns (h ++ entry ∷ []) view
HasColumns-push h entry view has =
    let exists : Exists h view.table = record { made = has.made; is = has.is } in
    let now = table-grows h entry view.table exists in
    let few = has.few in
    let long = defaults-long h view.table has.made has.is in
    let moved = scn-push h entry in
    let longer = ap length now.schema ∙ length-append has.made.schema (new_columns view.table entry.what) in
    let reached = has.reached in
    record {
      made = now.info;
      is = now.is;
      columns =
          has.columns
          ∙ (sym (take-append-le (length view.columns) has.made.schema (new_columns view.table entry.what) few)
          ∙ ap (take (length view.columns)) (sym now.schema));
      defaults =
          has.defaults
          ∙ (sym (take-append-le (length view.columns) has.made.defaults (new_defaults view.table entry.what) (omega (arith, few, long)))
          ∙ ap (take (length view.columns)) (sym now.defaults));
      few = omega (arith, few, longer);
      enough = rw (columns_at-push h entry view.table view.scn exists has.reached) has.enough;
      reached = omega (arith, reached, moved);
    }

pub HasColumns-longer : (h more : History) (view : View) → HasColumns h view → HasColumns (h ++ more) view
HasColumns-longer h more view has = each_longer (λ (log : History). HasColumns log view) (λ log entry so_far. HasColumns-push log entry view so_far) h more has

-- the view of the cursor has the first columns of its table
abbrev Has : History → Opened → Type 0
Has h o = HasColumns h o.view

-- those of all open cursors have
record AllHave (h : History) : Type 0 where
  pub each : (who : ℕ) → All (Has h) (opened h who)

AllHave-nil : AllHave []
unfolding opened replay
AllHave-nil = record { each = λ who. All-nil (Has []) }

AllHave-push : (limits : Limits) (h : History) (entry : Entry) → IsAllowed limits h entry.who entry.what → AllHave h → AllHave (h ++ entry ∷ [])
AllHave-push limits h entry allowed so_far = record {
  each = λ who.
      rw (opened-push h entry who)
      (All-weaker (Has h) (Has (h ++ entry ∷ [])) (λ o has. HasColumns-push h entry o.view has) _ (mine who (entry.who == who)));
}
  where
    after : (who : ℕ) (os : List Opened) (what : What) → IsAllowed limits h entry.who what → All (Has h) os → All (Has h) (opened_after h who os what)
    after who os (Open cursor table asked) may all =
        All-append (Has h) os (record { cursor = cursor; view = view_at h who table asked } ∷ []) all
        (All-cons (Has h) (record { cursor = cursor; view = view_at h who table asked }) []
        (HasColumns-view h who table asked may.exists (asked-reached h who asked (open-asked h entry.who cursor asked may.allowed))) (All-nil (Has h)))
    after who os (Shut cursor) may all = All-filter (λ other. not (is_cursor cursor other)) (Has h) os all
    after who os _ may all = all

    mine : (who : ℕ) (same : Bool) → All (Has h) (if same then opened_after h who (opened h who) entry.what else opened h who)
    mine who true = after who (opened h who) entry.what allowed (so_far.each who)
    mine who false = so_far.each who

all_have : (limits : Limits) (h : History) → IsLegal limits h → AllHave h
all_have limits = each_history (λ h. IsLegal limits h → AllHave h) (λ legal. AllHave-nil)
    (λ h entry so_far legal. let before = IsLegal-pop limits h entry legal in AllHave-push limits h entry before.1 (so_far before.0))

found-has : (h : History) (cursor : ℕ) (os : List Opened) (found : Opened) → All (Has h) os → find (is_cursor cursor) os ≡ Some found → Has h found
found-has h cursor [] found all e = absurd cc
found-has h cursor (o ∷ os) found all e = by (is_cursor cursor o) e (found-has h cursor os found (All-tail (Has h) o os all))
  where
    some : {a b : Opened} → Some a ≡ Some b → a ≡ b
    some e = cc

    by : (b : Bool) → (if b then Some o else find (is_cursor cursor) os) ≡ Some found → (find (is_cursor cursor) os ≡ Some found → Has h found)
        → Has h found
    by true e later = subst (Has h) (some e) (All-head (Has h) o os all)
    by false e later = later e

-- the view of an open cursor has the first columns that its table has now
pub cursor-columns : (limits : Limits) (h : History) (who cursor : ℕ) (found : Opened) → IsLegal limits h → cursor_at h who cursor ≡ Some found
    → HasColumns h found.view
cursor-columns limits h who cursor found legal is = found-has h cursor (opened h who) found ((all_have limits h legal).each who) is
