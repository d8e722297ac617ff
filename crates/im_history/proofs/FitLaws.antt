-- In a legal history all that was put into a table fits its first columns, and with the defaults of the others it fits the table.
use Rattle.std.proofs.Common.{◌≡◌, ℕ, zero, suc, ◌+◌, ◌≤◌, ◌<◌, le_refl, is_none, length, ◌==◌, ◌&&◌, Bool, true, false, IsTrue, if◌then◌else◌, List, [], ◌∷◌, ◌++◌, take, drop, filter, All, Option, Some, None, refl, sym, ap, ap₂, subst, ◌∙◌, ⊎_elim, arith}
use Rattle.std.specs.List.{fold, flat_map}
use Rattle.std.specs.Option.{option_map}
use Rattle.std.proofs.lemmas.List.{take-append-drop, take_all}
use Rattle.std.proofs.lemmas.Bool.{false≢true, cases_lt}
use Rattle.std.proofs.lemmas.Bool.Decides.{nat_tests}
use Rattle.std.proofs.lemmas.List.Elements.{All-nil, All-cons, All-head, All-tail, All-append, All-weaker, All-take, All-filter}
use Rattle.im_values.specs.declared.content.Content.{Content as Value}
use Rattle.im_values.specs.declared.content.Content.TheVariants.{Int, Text, Null}
use Rattle.im_values.specs.declared.schema.Column.{Column}
use Rattle.im_values.specs.declared.schema.Kind.{Kind}
use Rattle.im_values.specs.declared.schema.Kind.TheVariants as kind
use Rattle.im_values.specs.Fits.{fits, fits_first, may_stand}
use Rattle.im_values.specs.Sizes.{value_bytes}
use Rattle.im_values.specs.Widened.{widened}
use Rattle.im_values.proofs.WideLaws.{fits-first, fits-take, fits_first-more, widened-fits}
use Rattle.im_history.specs.declared.change.Change.{Change}
use Rattle.im_history.specs.declared.entry.Entry.{Entry}
use Rattle.im_history.specs.declared.entry.What.{What}
use Rattle.im_history.specs.declared.entry.What.TheVariants.{Create, Add, Write, Commit, Rollback}
use Rattle.im_history.specs.declared.limits.Limits.{Limits}
use Rattle.im_history.specs.declared.look.TableInfo.{TableInfo}
use Rattle.im_history.specs.declared.view.View.{View}
use Rattle.im_history.specs.Columns.{columns_at, columns_of, defaults_at, schema_at}
use Rattle.im_history.specs.Commits.{commits, committed_by, moves_clock, scn, members}
use Rattle.im_history.specs.History.{History, replay}
use Rattle.im_history.specs.Legal.{AreNarrow, IsAllowed, IsInsert, IsLegal, IsRewrite, put_from, row_fits, text_limit}
use Rattle.im_history.specs.Rows.{Row, changes_until, own_changes, row_after, rows, seen}
use Rattle.im_history.specs.Tables.{table_at, tables}
use Rattle.im_history.specs.Transactions.{pending, pending_after}
use Rattle.im_history.specs.Units.{unit_row}
use Rattle.im_history.specs.Views.{defaults_of, reads_at, schema_of, seen_by, shown, shows_own, view_at}
use Rattle.im_history.proofs.Laws.{IsLegal-pop, commits-push, pending-push, scn-push}
use Rattle.im_history.proofs.RowLaws.{each_history, rows-append}
use Rattle.im_history.proofs.ColumnLaws.{columns_at-grows, columns_at-now, schema_at-push, take-take}
use Rattle.im_history.proofs.ShapeLaws.{defaults-fit}
use Rattle.im_history.proofs.TableLaws.{new_columns, table-grows}
use Rattle.im_history.proofs.ViewLaws.{HasColumns, cursor-columns}

-- a row that is put fits the first of these columns
abbrev pub row_starts : List Column → Option Row → Bool
row_starts schema None = true
row_starts schema (Some row) = fits_first row schema

-- what is put fits the first columns of its table: those that it had by then. Where there is no table, none is put
abbrev fits_in : Option TableInfo → Option Row → Bool
fits_in None row = is_none row
fits_in (Some made) row = row_starts made.schema row

-- what the change puts fits the first columns of its table
abbrev Fits : History → Change → Type 0
Fits h change = IsTrue (fits_in (table_at h change.table) change.row)

starts-more : (schema more : List Column) (row : Option Row) → IsTrue (row_starts schema row) → IsTrue (row_starts (schema ++ more) row)
starts-more schema more None fit = fit
starts-more schema more (Some row) fit = fits_first-more row schema more fit

starts-fit : (schema : List Column) (row : Option Row) → IsTrue (row_fits schema row) → IsTrue (row_starts schema row)
starts-fit schema None fit = fit
starts-fit schema (Some row) fit = fits-first row schema fit

-- what fits the first of the first columns fits the first columns
starts-take : (n : ℕ) (schema : List Column) (row : Option Row) → IsTrue (row_starts (take n schema) row) → IsTrue (row_starts schema row)
starts-take n schema row fit =
    subst (λ (l : List Column). IsTrue (row_starts l row)) (take-append-drop n schema) (starts-more (take n schema) (drop n schema) row fit)

-- a table that stands keeps its columns
Fits-push : (h : History) (entry : Entry) (change : Change) → Fits h change → Fits (h ++ entry ∷ []) change
Fits-push h entry change fit = by (table_at h change.table) refl fit
  where
    none : (found : Option TableInfo) (row : Option Row) → IsTrue (is_none row) → IsTrue (fits_in found row)
    none None None fit = refl
    none (Some made) None fit = refl
    none found (Some row) fit = cc

    by : (found : Option TableInfo) → table_at h change.table ≡ found → IsTrue (fits_in found change.row)
        → IsTrue (fits_in (table_at (h ++ entry ∷ []) change.table) change.row)
    by None is fit = none (table_at (h ++ entry ∷ []) change.table) change.row fit
    by (Some made) is fit =
        let now = table-grows h entry change.table (record { made = made; is = is }) in
        rw (now.is, now.schema) (starts-more made.schema (new_columns change.table entry.what) change.row fit)

-- what an insert puts
put_from-fits : (h : History) (table first : ℕ) (made : TableInfo) (news : List Row) → table_at h table ≡ Some made
    → All (λ row. IsTrue (fits row made.schema)) news → All (Fits h) (put_from table first news)
put_from-fits h table first made [] is fit = All-nil (Fits h)
put_from-fits h table first made (row ∷ news) is fit =
    All-cons (Fits h) (record { table = table; rid = first; row = Some row }) (put_from table (first + 1) news)
    (ap (λ (t : Option TableInfo). fits_in t (Some row)) is
    ∙ fits-first row made.schema (All-head (λ r. IsTrue (fits r made.schema)) row news fit))
    (put_from-fits h table (first + 1) made news is (All-tail (λ r. IsTrue (fits r made.schema)) row news fit))

-- what a write to rows that a cursor saw puts
rewritten-fits : (h : History) (table : ℕ) (made : TableInfo) (changes : List Change) → table_at h table ≡ Some made
    → All (λ change. change.table ≡ table) changes → All (λ change. IsTrue (row_starts made.schema change.row)) changes → All (Fits h) changes
rewritten-fits h table made [] is same fit = All-nil (Fits h)
rewritten-fits h table made (change ∷ changes) is same fit =
    All-cons (Fits h) change changes
    (ap (λ (n : ℕ). fits_in (table_at h n) change.row) (All-head (λ c. c.table ≡ table) change changes same)
    ∙ (ap (λ (t : Option TableInfo). fits_in t change.row) is ∙ All-head (λ c. IsTrue (row_starts made.schema c.row)) change changes fit))
    (rewritten-fits h table made changes is (All-tail (λ c. c.table ≡ table) change changes same)
    (All-tail (λ c. IsTrue (row_starts made.schema c.row)) change changes fit))

written-fits : (limits : Limits) (h : History) (who : ℕ) (changes : List Change) → IsLegal limits h → IsAllowed limits h who (Write changes)
    → All (Fits h) changes
written-fits limits h who changes legal allowed =
    ⊎_elim
    (λ (insert : IsInsert limits h who changes). rw insert.next
    (put_from-fits h insert.table _ insert.may.exists.made insert.rows insert.may.exists.is insert.may.fit))
    (λ (write : IsRewrite limits h who changes).
    let has = cursor-columns limits h who write.cursor write.may.opened legal write.may.is in
    rewritten-fits h write.may.opened.view.table has.made changes has.is write.may.same
    (All-weaker (λ (change : Change). IsTrue (row_fits write.may.opened.view.columns change.row)) (λ (change : Change). IsTrue (row_starts has.made.schema change.row))
    (λ change fit. starts-take (length write.may.opened.view.columns) has.made.schema change.row
    (subst (λ (columns : List Column). IsTrue (row_starts columns change.row)) has.columns
    (starts-fit write.may.opened.view.columns change.row fit))) changes write.may.fit))
    allowed

-- all that is pending fits, and all that was committed
record AllFits (h : History) : Type 0 where
  pub waiting : (who : ℕ) → All (Fits h) (pending h who)
  pub done : All (All (Fits h)) (commits h)

AllFits-nil : AllFits []
unfolding pending commits members replay
AllFits-nil = record { waiting = λ who. All-nil (Fits []); done = All-nil (All (Fits [])) }

AllFits-push : (limits : Limits) (h : History) (entry : Entry) → IsLegal limits h → IsAllowed limits h entry.who entry.what → AllFits h
    → AllFits (h ++ entry ∷ [])
AllFits-push limits h entry legal allowed so_far = record {
  waiting = λ who. rw (pending-push h entry who) (later _ (mine who (entry.who == who)));
  done =
      rw (commits-push h entry)
      (All-append (All (Fits (h ++ entry ∷ []))) (commits h) (committed_by h entry.who entry.what) (each_later (commits h) so_far.done)
      (each_later _ (committed entry.what)));
}
  where
    later : (changes : List Change) → All (Fits h) changes → All (Fits (h ++ entry ∷ [])) changes
    later = All-weaker (Fits h) (Fits (h ++ entry ∷ [])) (Fits-push h entry)

    each_later : (lists : List (List Change)) → All (All (Fits h)) lists → All (All (Fits (h ++ entry ∷ []))) lists
    each_later = All-weaker (All (Fits h)) (All (Fits (h ++ entry ∷ []))) later

    after : (changes : List Change) (what : What) → IsAllowed limits h entry.who what → All (Fits h) changes → All (Fits h) (pending_after changes what)
    after changes (Write more) may all = All-append (Fits h) changes more all (written-fits limits h entry.who more legal may)
    after changes Commit may all = All-nil (Fits h)
    after changes Rollback may all = All-nil (Fits h)
    after changes _ may all = all

    mine : (who : ℕ) (same : Bool) → All (Fits h) (if same then pending_after (pending h who) entry.what else pending h who)
    mine who true = after (pending h who) entry.what allowed (so_far.waiting who)
    mine who false = so_far.waiting who

    committed : (what : What) → All (All (Fits h)) (committed_by h entry.who what)
    committed Commit = All-cons (All (Fits h)) (pending h entry.who) [] (so_far.waiting entry.who) (All-nil (All (Fits h)))
    committed (Create name schema grid) = All-cons (All (Fits h)) [] [] (All-nil (Fits h)) (All-nil (All (Fits h)))
    committed (Add table column default) = All-cons (All (Fits h)) [] [] (All-nil (Fits h)) (All-nil (All (Fits h)))
    committed _ = All-nil (All (Fits h))

all_fits : (limits : Limits) (h : History) → IsLegal limits h → AllFits h
all_fits limits = each_history (λ h. IsLegal limits h → AllFits h) (λ legal. AllFits-nil)
    (λ h entry so_far legal. let before = IsLegal-pop limits h entry legal in AllFits-push limits h entry before.0 before.1 (so_far before.0))

-- a change that fits puts what fits the first columns of its table
put-fits : (h : History) (table : ℕ) (change : Change) → Fits h change → change.table ≡ table → IsTrue (fits_in (table_at h table) change.row)
put-fits h table change fit same = ap (λ (n : ℕ). fits_in (table_at h n) change.row) (sym same) ∙ fit

-- changes that fit leave rows that fit
fold-fits : (h : History) (table rid : ℕ) (start : Option Row) (changes : List Change) → IsTrue (fits_in (table_at h table) start) → All (Fits h) changes
    → IsTrue (fits_in (table_at h table) (fold (row_after table rid) start changes))
fold-fits h table rid start [] fit all = fit
fold-fits h table rid start (change ∷ changes) fit all =
    fold-fits h table rid (row_after table rid start change) changes (by (change.table == table) (change.rid == rid) refl)
    (All-tail (Fits h) change changes all)
  where
    by : (to_it to_row : Bool) → (change.table == table) ≡ to_it
        → IsTrue (fits_in (table_at h table) (if to_it && to_row then change.row else start))
    by true true e = put-fits h table change (All-head (Fits h) change changes all) (grind (arith, nat_tests))
    by true false e = fit
    by false to_row e = fit

each-flat_map : (P : Change → Type 0) (lists : List (List Change)) → All (All P) lists → All P (flat_map (λ changes. changes) lists)
each-flat_map P [] all = All-nil P
each-flat_map P (changes ∷ lists) all =
    All-append P changes (flat_map (λ c. c) lists) (All-head (All P) changes lists all) (each-flat_map P lists (All-tail (All P) changes lists all))

present-fits : (found : Option TableInfo) (made : TableInfo) (at : Option Row) (row : Row) → IsTrue (fits_in found at) → found ≡ Some made
    → at ≡ Some row → fits_first row made.schema ≡ true
present-fits found made at row fit there is = rw (there, is) at fit

-- of changes that fit, those to a table put what fits it
own-fit : (h : History) (table : ℕ) (made : TableInfo) (changes : List Change) → table_at h table ≡ Some made → All (Fits h) changes
    → All (λ change. IsTrue (row_starts made.schema change.row)) (filter (λ change. change.table == table) changes)
own-fit h table made [] is all = All-nil _
own-fit h table made (change ∷ changes) is all = by (change.table == table) refl (own-fit h table made changes is (All-tail (Fits h) change changes all))
  where
    starts-of : (found : Option TableInfo) (row : Option Row) → found ≡ Some made → IsTrue (fits_in found row) → IsTrue (row_starts made.schema row)
    starts-of found row there fit = rw there at fit

    by : (to_it : Bool) → (change.table == table) ≡ to_it → All (λ c. IsTrue (row_starts made.schema c.row)) (filter (λ c. c.table == table) changes)
        → All (λ c. IsTrue (row_starts made.schema c.row))
        (if to_it then change ∷ filter (λ c. c.table == table) changes else filter (λ c. c.table == table) changes)
    by true e rest =
        All-cons (λ c. IsTrue (row_starts made.schema c.row)) change (filter (λ c. c.table == table) changes)
        (starts-of (table_at h table) change.row is (put-fits h table change (All-head (Fits h) change changes all) (grind (arith, nat_tests)))) rest
    by false e rest = rest

-- what a session has pending to a table that stands fits its first columns
pub pending-fits : (limits : Limits) (h : History) (who table : ℕ) (made : TableInfo) → IsLegal limits h → table_at h table ≡ Some made
    → All (λ change. IsTrue (row_starts made.schema change.row)) (own_changes h who table)
pending-fits limits h who table made legal is = own-fit h table made (pending h who) is ((all_fits limits h legal).waiting who)

none-fits : (found : Option TableInfo) → IsTrue (fits_in found None)
none-fits None = refl
none-fits (Some made) = refl

committed-fit : (limits : Limits) (h : History) (table scn rid : ℕ) → IsLegal limits h → IsTrue (fits_in (table_at h table) (rows h table scn rid))
unfolding rows
committed-fit limits h table scn rid legal =
    fold-fits h table rid None (changes_until h scn) (none-fits (table_at h table))
    (each-flat_map (Fits h) (take scn (commits h)) (All-take (All (Fits h)) scn (commits h) (all_fits limits h legal).done))

-- each row that was committed to a table that stands fits its first columns
pub rows-fit : (limits : Limits) (h : History) (table scn rid : ℕ) (made : TableInfo) (row : Row) → IsLegal limits h → table_at h table ≡ Some made
    → rows h table scn rid ≡ Some row → fits_first row made.schema ≡ true
rows-fit limits h table scn rid made row legal is found =
    present-fits (table_at h table) made (rows h table scn rid) row (committed-fit limits h table scn rid legal) is found

-- ---- the columns at an SCN

-- each row that was committed by an SCN fits the first of the columns that its table had there
record FitThere (limits : Limits) (h : History) : Type 0 where
  fit : IsLegal limits h → (table n rid : ℕ) (made : TableInfo) (row : Row) → table_at h table ≡ Some made → rows h table n rid ≡ Some row
      → fits_first row (schema_at h table n) ≡ true

no_table : (table : ℕ) (made : TableInfo) → table_at [] table ≡ Some made → ⊥
unfolding tables replay
no_table zero made is = absurd cc
no_table (suc before) made is = absurd cc

no_row : (limits : Limits) (h : History) (table n rid : ℕ) (row : Row) → IsLegal limits h → table_at h table ≡ None → rows h table n rid ≡ Some row → ⊥
no_row limits h table n rid row legal none is =
    let fit : IsTrue (fits_in None (Some row)) = rw (none, is) at (committed-fit limits h table n rid legal) in cc

-- at an SCN that is not passed yet
fit-now : (limits : Limits) (h : History) (table n rid : ℕ) (made : TableInfo) (row : Row) → IsLegal limits h → scn h ≤ n → table_at h table ≡ Some made
    → rows h table n rid ≡ Some row → fits_first row (schema_at h table n) ≡ true
fit-now limits h table n rid made row legal past is found =
    let all : schema_at h table n ≡ made.schema =
    ap (λ (k : ℕ). take k (schema_of (table_at h table))) (columns_at-now h table n past)
    ∙ (take_all (columns_of (table_at h table)) (schema_of (table_at h table)) (le_refl _) ∙ ap schema_of is) in
    rw all (rows-fit limits h table n rid made row legal is found)

FitThere-push : (limits : Limits) (h : History) (entry : Entry) → FitThere limits h → FitThere limits (h ++ entry ∷ [])
FitThere-push limits h entry before = record {
  fit = λ legal table n rid made row is found.
      ⊎_elim
      (λ (past : scn h < n). let moved = scn-push h entry in
      fit-now limits (h ++ entry ∷ []) table n rid made row legal (omega (arith, past, moved, one (moves_clock entry.what))) is found)
      (λ (reached : n ≤ scn h). earlier (IsLegal-pop limits h entry legal).0 table n rid row reached (table_at h table) refl
      (sym (rows-append h (entry ∷ []) table n rid reached) ∙ found))
      (cases_lt (scn h) n);
}
  where
    one : (b : Bool) → (if b then 1 else 0) ≤ 1
    one true = omega arith
    one false = omega arith

    earlier : IsLegal limits h → (table n rid : ℕ) (row : Row) → n ≤ scn h → (was : Option TableInfo) → table_at h table ≡ was → rows h table n rid ≡ Some row
        → fits_first row (schema_at (h ++ entry ∷ []) table n) ≡ true
    earlier legal table n rid row reached None none found = absurd (no_row limits h table n rid row legal none found)
    earlier legal table n rid row reached (Some made) is found =
        rw (schema_at-push h entry table n (record { made = made; is = is }) reached) (before.fit legal table n rid made row is found)

pub rows-fit-at : (limits : Limits) (h : History) (table n rid : ℕ) (made : TableInfo) (row : Row) → IsLegal limits h → table_at h table ≡ Some made
    → rows h table n rid ≡ Some row → fits_first row (schema_at h table n) ≡ true
rows-fit-at limits h table n rid made row legal is found =
    (each_history (FitThere limits) (record { fit = λ legal table n rid made row is found. absurd (no_table table made is) })
    (FitThere-push limits) h).fit legal table n rid made row is found

-- a row with defaults is one that stands there
record IsWide (defaults : List Value) (found : Option Row) (row : Row) : Type 0 where
  written : Row
  is : found ≡ Some written
  wide : row ≡ widened defaults written

wide-is : (defaults : List Value) (found : Option Row) (row : Row) → option_map (widened defaults) found ≡ Some row → IsWide defaults found row
wide-is defaults None row is = absurd cc
wide-is defaults (Some written) row is = record { written = written; is = refl; wide = the_same _ _ is }
  where
    the_same : (a b : Row) → Some a ≡ Some b → b ≡ a
    the_same a b same = cc

-- the defaults that a table had at an SCN fit its columns there
defaults-fit-at : (limits : Limits) (h : History) (table n : ℕ) (made : TableInfo) → IsLegal limits h → table_at h table ≡ Some made
    → fits (defaults_at h table n) (schema_at h table n) ≡ true
defaults-fit-at limits h table n made legal is =
    ap (λ (t : Option TableInfo). fits (take (columns_at h table n) (defaults_of t)) (take (columns_at h table n) (schema_of t))) is
    ∙ fits-take (columns_at h table n) made.defaults made.schema (defaults-fit limits h table made legal is)

-- each row of a unit at an SCN fits the columns that its table had there
pub unit_row-fits : (limits : Limits) (h : History) (table n rid : ℕ) (made : TableInfo) (row : Row) → IsLegal limits h → table_at h table ≡ Some made
    → unit_row h table n rid ≡ Some row → fits row (schema_at h table n) ≡ true
unit_row-fits limits h table n rid made row legal is found =
    let wide = wide-is (defaults_at h table n) (rows h table n rid) row found in
    ap (λ (r : Row). fits r (schema_at h table n)) wide.wide
    ∙ widened-fits (defaults_at h table n) wide.written (schema_at h table n) (defaults-fit-at limits h table n made legal is)
    (rows-fit-at limits h table n rid made wide.written legal is wide.is)

-- each row that was committed by a view's SCN fits the view's columns, as the view shows it
pub shown-fits : (limits : Limits) (h : History) (view : View) (n rid : ℕ) (row : Row) → IsLegal limits h → HasColumns h view → n ≤ view.scn
    → shown view (rows h view.table n rid) ≡ Some row → fits row view.columns ≡ true
shown-fits limits h view n rid row legal has within found =
    let wide = wide-is view.defaults (rows h view.table n rid) row found in
    let grows = columns_at-grows h view.table n view.scn within in
    let enough = has.enough in
    let first : take (columns_at h view.table n) view.columns ≡ schema_at h view.table n =
    ap (take (columns_at h view.table n)) has.columns
    ∙ (take-take (columns_at h view.table n) (length view.columns) has.made.schema (omega (arith, grows, enough))
    ∙ ap (λ (t : Option TableInfo). take (columns_at h view.table n) (schema_of t)) (sym has.is)) in
    let starts : fits_first wide.written (take (columns_at h view.table n) view.columns) ≡ true =
    rw first (rows-fit-at limits h view.table n rid has.made wide.written legal has.is wide.is) in
    let all : fits view.defaults view.columns ≡ true =
    ap₂ (λ (values : List Value) (columns : List Column). fits values columns) has.defaults has.columns
    ∙ fits-take (length view.columns) has.made.defaults has.made.schema (defaults-fit limits h view.table has.made legal has.is) in
    ap (λ (r : Row). fits r view.columns) wide.wide
    ∙ widened-fits view.defaults wide.written view.columns all
    (starts-take (columns_at h view.table n) view.columns (Some wide.written) starts)

-- what an opening shows of the session's own changes fits
shows-fit : (limits : Limits) (h : History) (who table : ℕ) (asked : Option ℕ) → IsLegal limits h → All (Fits h) (shows_own h who table asked)
shows-fit limits h who table None legal =
    All-filter (λ change. change.table == table) (Fits h) (pending h who) ((all_fits limits h legal).waiting who)
shows-fit limits h who table (Some asked) legal = All-nil (Fits h)

-- each row that a statement sees of a table that stands fits it
pub seen-fits : (limits : Limits) (h : History) (who table : ℕ) (asked : Option ℕ) (rid : ℕ) (made : TableInfo) (row : Row) → IsLegal limits h
    → table_at h table ≡ Some made → seen_by h (view_at h who table asked) rid ≡ Some row → fits row made.schema ≡ true
unfolding seen
seen-fits limits h who table asked rid made row legal is found =
    let saw = wide-is (view_at h who table asked).defaults (seen h table (reads_at h who asked) (shows_own h who table asked) rid) row found in
    let fit : fits_first saw.written made.schema ≡ true =
    present-fits (table_at h table) made _ saw.written
    (fold-fits h table rid (rows h table (reads_at h who asked) rid) (shows_own h who table asked)
    (committed-fit limits h table (reads_at h who asked) rid legal) (shows-fit limits h who table asked legal))
    is saw.is in
    ap (λ (r : Row). fits r made.schema) (saw.wide ∙ ap (λ (t : Option TableInfo). widened (defaults_of t) saw.written) is)
    ∙ widened-fits made.defaults saw.written made.schema (defaults-fit limits h table made legal is) fit

-- a value that may stand in a column counts for at most three bytes more than the column's longest text
stands-short : (k : Kind) (value : Value) → may_stand k value ≡ true → text_limit k ≤ 65535 → value_bytes value ≤ 65538
stands-short kind.Int (Int n) stands narrow = omega arith
stands-short kind.Int (Text t) stands narrow = absurd (false≢true stands)
stands-short kind.Int Null stands narrow = omega arith
stands-short (kind.Text limit) (Int n) stands narrow = absurd (false≢true stands)
stands-short (kind.Text limit) (Text t) stands narrow =
    let within : length t ≤ limit = grind (arith, nat_tests, stands) in omega (arith, within, narrow)
stands-short (kind.Text limit) Null stands narrow = omega arith

both : (a b : Bool) → (a && b) ≡ true → (a ≡ true) × (b ≡ true)
both true true is = (refl, refl)
both true false is = absurd (false≢true is)
both false b is = absurd (false≢true is)

-- a row that fits columns that are narrow has a value for each, and none is a long text
pub fits-length : (row : Row) (schema : List Column) → fits row schema ≡ true → length row ≡ length schema
fits-length [] [] fit = refl
fits-length [] (column ∷ columns) fit = absurd (false≢true fit)
fits-length (value ∷ values) [] fit = absurd (false≢true fit)
fits-length (value ∷ values) (column ∷ columns) fit =
    ap suc (fits-length values columns (both (may_stand column.kind value) (fits values columns) fit).1)

pub fits-short : (row : Row) (schema : List Column) → fits row schema ≡ true → AreNarrow schema → All (λ value. value_bytes value ≤ 65538) row
fits-short [] [] fit narrow = All-nil (λ value. value_bytes value ≤ 65538)
fits-short [] (column ∷ columns) fit narrow = absurd (false≢true fit)
fits-short (value ∷ values) [] fit narrow = absurd (false≢true fit)
fits-short (value ∷ values) (column ∷ columns) fit narrow =
    let parts = both (may_stand column.kind value) (fits values columns) fit in
    All-cons (λ value. value_bytes value ≤ 65538) value values (stands-short column.kind value parts.0 narrow.0) (fits-short values columns parts.1 narrow.1)
