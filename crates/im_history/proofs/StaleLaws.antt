-- A row that no commit touched since stays as it was, so that a column unit serves all but its stale rows.
use Rattle.std.proofs.Common.{◌≡◌, ℕ, ◌≤◌, ◌<◌, ◌&&◌, ◌||◌, Bool, true, false, if◌then◌else◌, List, [], ◌∷◌, ◌++◌, length, take, map, Option, Some, None, le_refl, refl, sym, ap, ◌∙◌, ⊎_elim, arith}
use Rattle.std.specs.Prelude.{nat_le, nat_lt}
use Rattle.std.specs.List.{fold}
use Rattle.std.specs.Option.{option_map}
use Rattle.std.proofs.lemmas.Bool.{cases_lt}
use Rattle.std.proofs.lemmas.Bool.Decides.{nat_tests}
use Rattle.std.proofs.lemmas.List.{take_all}
use Rattle.im_values.specs.declared.content.Content.{Content as Value}
use Rattle.im_values.specs.Widened.{widened}
use Rattle.im_values.proofs.WideLaws.{widened-again}
use Rattle.im_history.specs.declared.change.Change.{Change}
use Rattle.im_history.specs.declared.entry.Entry.{Entry}
use Rattle.im_history.specs.declared.entry.What.{What}
use Rattle.im_history.specs.declared.entry.What.TheVariants.{Create, Add, Commit}
use Rattle.im_history.specs.declared.look.TableInfo.{TableInfo}
use Rattle.im_history.specs.declared.view.View.{View}
use Rattle.im_history.specs.Columns.{columns_at, defaults_at}
use Rattle.im_history.specs.Commits.{commits, scn, members}
use Rattle.im_history.specs.History.{History, replay}
use Rattle.im_history.specs.Rows.{Row, rows, row_after}
use Rattle.im_history.specs.Tables.{table_at}
use Rattle.im_history.specs.Touched.{is_to, touches}
use Rattle.im_history.specs.Transactions.{pending}
use Rattle.im_history.specs.Units.{touched_between, touched_between_after, unit_row}
use Rattle.im_history.specs.Views.{defaults_of, shown}
use Rattle.im_history.proofs.ColumnLaws.{columns_at-grows, take-take}
use Rattle.im_history.proofs.RowLaws.{each_history, rows-append, rows-push_commit, rows-push_empty, rows-push_quiet, rows_past}
use Rattle.im_history.proofs.UnitLaws.{touched_between-push}
use Rattle.im_history.proofs.ViewLaws.{HasColumns}

-- ---- two tests of which none holds

left_false : (a b : Bool) → (a || b) ≡ false → a ≡ false
left_false false b none = refl
left_false true b none = none

right_false : (a b : Bool) → (a || b) ≡ false → b ≡ false
right_false false b none = none
right_false true b none = absurd cc

last_false : (a b c : Bool) → a ≡ true → b ≡ true → ((a && b) && c) ≡ false → c ≡ false
last_false true true c one two none = none
last_false true false c one two none = absurd cc
last_false false b c one two none = absurd cc

-- ---- rows that are not touched

-- changes to other rows leave a row as it is
pub untouched : (changes : List Change) (table rid : ℕ) (row : Option Row) → touches changes table rid ≡ false
    → fold (row_after table rid) row changes ≡ row
untouched [] table rid row none = refl
untouched (change ∷ changes) table rid row none =
    let here = left_false (is_to table rid change) (touches changes table rid) none in
    let behind = right_false (is_to table rid change) (touches changes table rid) none in
    untouched changes table rid (row_after table rid row change) behind ∙ ap (λ (b : Bool). if b then change.row else row) here

-- the row is the same at both SCNs, unless a commit between them touched it
abbrev Keeps : ℕ → ℕ → ℕ → ℕ → History → Type 0
Keeps after to table rid h = touched_between h after to table rid ≡ false → rows h table to rid ≡ rows h table after rid

nothing_yet : (n : ℕ) → scn [] ≤ n
unfolding commits members replay
nothing_yet n = omega arith

keeps-nil : (after to table rid : ℕ) → Keeps after to table rid []
keeps-nil after to table rid none =
    rows_past [] table to rid (nothing_yet to) ∙ sym (rows_past [] table after rid (nothing_yet after))

-- an entry that changes no row at either SCN
keeps-same : (h : History) (entry : Entry) (after to table rid : ℕ) → rows (h ++ entry ∷ []) table to rid ≡ rows h table to rid
    → rows (h ++ entry ∷ []) table after rid ≡ rows h table after rid → (touched_between h after to table rid ≡ false)
    → Keeps after to table rid h → rows (h ++ entry ∷ []) table to rid ≡ rows (h ++ entry ∷ []) table after rid
keeps-same h entry after to table rid at_to at_after none so_far = at_to ∙ (so_far none ∙ sym at_after)

abbrev committed : ℕ → Entry
committed who = record { who = who; what = Commit }

-- a commit between the two SCNs that does not touch the row
keeps-between : (h : History) (who after to table rid : ℕ) → after ≤ scn h → scn h < to
    → touches (pending h who) table rid ≡ false → (touched_between h after to table rid ≡ false) → Keeps after to table rid h
    → rows (h ++ committed who ∷ []) table to rid ≡ rows (h ++ committed who ∷ []) table after rid
keeps-between h who after to table rid from below none before so_far =
    rows-push_commit h who table to rid below
    ∙ (untouched (pending h who) table rid (rows h table (scn h) rid) none
    ∙ (sym (rows_past h table to rid (omega arith))
    ∙ (so_far before
    ∙ sym (rows-append h (committed who ∷ []) table after rid from))))

keeps-commit : (h : History) (who after to table rid : ℕ) → after ≤ to
    → (touched_between h after to table rid ||
    ((nat_le after (scn h) && nat_lt (scn h) to) && touches (pending h who) table rid)) ≡ false
    → Keeps after to table rid h → rows (h ++ committed who ∷ []) table to rid ≡ rows (h ++ committed who ∷ []) table after rid
keeps-commit h who after to table rid within none so_far =
    let before = left_false (touched_between h after to table rid)
    ((nat_le after (scn h) && nat_lt (scn h) to) && touches (pending h who) table rid) none in
    let now = right_false (touched_between h after to table rid)
    ((nat_le after (scn h) && nat_lt (scn h) to) && touches (pending h who) table rid) none in
    ⊎_elim
    (λ (below : scn h < to). ⊎_elim
    (λ (newer : scn h < after). rows-push_commit h who table to rid below ∙ sym (rows-push_commit h who table after rid newer))
    (λ (from : after ≤ scn h). keeps-between h who after to table rid from below
    (last_false (nat_le after (scn h)) (nat_lt (scn h) to) (touches (pending h who) table rid) (grind (arith, nat_tests))
    (grind (arith, nat_tests)) now)
    before so_far)
    (cases_lt (scn h) after))
    (λ (past : to ≤ scn h). keeps-same h (committed who) after to table rid
    (rows-append h (committed who ∷ []) table to rid past)
    (rows-append h (committed who ∷ []) table after rid (omega arith)) before so_far)
    (cases_lt (scn h) to)

keeps-push : (h : History) (who : ℕ) (what : What) (after to table rid : ℕ) → after ≤ to
    → touched_between_after table rid after to h (touched_between h after to table rid) who what ≡ false
    → Keeps after to table rid h
    → rows (h ++ record { who = who; what = what } ∷ []) table to rid ≡ rows (h ++ record { who = who; what = what } ∷ []) table
    after rid
keeps-push h who Commit after to table rid within none so_far = keeps-commit h who after to table rid within none so_far
keeps-push h who (Create name schema grid) after to table rid within none so_far =
    keeps-same h (record { who = who; what = Create name schema grid }) after to table rid
    (rows-push_empty h (record { who = who; what = Create name schema grid }) table to rid refl)
    (rows-push_empty h (record { who = who; what = Create name schema grid }) table after rid refl) none so_far
keeps-push h who (Add other column default) after to table rid within none so_far =
    keeps-same h (record { who = who; what = Add other column default }) after to table rid
    (rows-push_empty h (record { who = who; what = Add other column default }) table to rid refl)
    (rows-push_empty h (record { who = who; what = Add other column default }) table after rid refl) none so_far
keeps-push h who what after to table rid within none so_far =
    keeps-same h (record { who = who; what = what }) after to table rid
    (rows-push_quiet h (record { who = who; what = what }) table to rid refl)
    (rows-push_quiet h (record { who = who; what = what }) table after rid refl) none so_far

-- a row that no commit behind an SCN and up to a later one touched is the same at both
pub rows-untouched : (h : History) (after to table rid : ℕ) → after ≤ to → touched_between h after to table rid ≡ false
    → rows h table to rid ≡ rows h table after rid
rows-untouched h after to table rid within =
    each_history (Keeps after to table rid) (keeps-nil after to table rid)
    (λ longer entry so_far none. keeps-push longer entry.who entry.what after to table rid within
    (sym (touched_between-push longer entry after to table rid) ∙ none) so_far) h

-- ---- the rows of a unit with its stale rows replaced

-- the row at the later SCN where a commit between the two touched it, else the row at the earlier one
abbrev pub mended_row : History → ℕ → ℕ → ℕ → ℕ → Option Row
mended_row h table after to rid = if touched_between h after to table rid then rows h table to rid else rows h table after rid

-- this is the row at the later SCN
pub rows-mended : (h : History) (table after to rid : ℕ) → after ≤ to → mended_row h table after to rid ≡ rows h table to rid
rows-mended h table after to rid within = by (touched_between h after to table rid) refl
  where
    by : (b : Bool) → touched_between h after to table rid ≡ b
        → (if b then rows h table to rid else rows h table after rid) ≡ rows h table to rid
    by true touched = refl
    by false none = sym (rows-untouched h after to table rid within none)

-- so the rows at the later SCN are those at the earlier one, but at the row numbers that are stale
pub rows-mended_all : (h : History) (table after to : ℕ) (rids : List ℕ) → after ≤ to
    → map (mended_row h table after to) rids ≡ map (rows h table to) rids
rows-mended_all h table after to [] within = refl
rows-mended_all h table after to (rid ∷ rids) within =
    ap (λ (row : Option Row). row ∷ map (mended_row h table after to) rids) (rows-mended h table after to rid within)
    ∙ ap (λ (found : List (Option Row)). rows h table to rid ∷ found) (rows-mended_all h table after to rids within)

-- ---- rows that are lengthened

-- a row with the defaults of the columns that its table had at an SCN
abbrev pub wide : History → ℕ → ℕ → Option Row → Option Row
wide h table n row = option_map (widened (defaults_at h table n)) row

wide_twice : (first second both : List Value) (row : Option Row) → ((values : Row) → widened second (widened first values) ≡ widened both values)
    → option_map (widened second) (option_map (widened first) row) ≡ option_map (widened both) row
wide_twice first second both None same = refl
wide_twice first second both (Some values) same = ap Some (same values)

-- the defaults at an earlier SCN are the first of those at a later one
pub defaults_at-first : (h : History) (table n m : ℕ) → n ≤ m → defaults_at h table n ≡ take (columns_at h table n) (defaults_at h table m)
defaults_at-first h table n m within =
    sym (take-take (columns_at h table n) (columns_at h table m) (defaults_of (table_at h table)) (columns_at-grows h table n m within))

-- a row lengthened to the columns at an SCN, and then to those at a later one, is the row lengthened to the latter
pub wide-again : (h : History) (table n m : ℕ) (row : Option Row) → n ≤ m → wide h table m (wide h table n row) ≡ wide h table m row
wide-again h table n m row within =
    ap (λ (first : List Value). option_map (widened (defaults_at h table m)) (option_map (widened first) row)) (defaults_at-first h table n m within)
    ∙ wide_twice (take (columns_at h table n) (defaults_at h table m)) (defaults_at h table m) (defaults_at h table m) row
    (λ values. widened-again (defaults_at h table m) (columns_at h table n) values)

-- the row at a later SCN where a commit between the two touched it, else the row of a unit at the earlier one; both lengthened to the columns
-- at a third SCN
abbrev pub mended_wide : History → ℕ → ℕ → ℕ → ℕ → ℕ → Option Row
mended_wide h table unit_scn to n rid =
    if touched_between h unit_scn to table rid then wide h table n (rows h table to rid) else wide h table n (unit_row h table unit_scn rid)

-- this is the row at the later SCN, lengthened so
pub rows-mended-wide : (h : History) (table unit_scn to n rid : ℕ) → unit_scn ≤ to → to ≤ n
    → mended_wide h table unit_scn to n rid ≡ wide h table n (rows h table to rid)
rows-mended-wide h table unit_scn to n rid within reached = by (touched_between h unit_scn to table rid) refl
  where
    by : (b : Bool) → touched_between h unit_scn to table rid ≡ b
        → (if b then wide h table n (rows h table to rid) else wide h table n (unit_row h table unit_scn rid)) ≡ wide h table n (rows h table to rid)
    by true touched = refl
    by false none =
        wide-again h table unit_scn n (rows h table unit_scn rid) (omega (arith, within, reached))
        ∙ ap (wide h table n) (sym (rows-untouched h unit_scn to table rid within none))

-- ---- rows that a view shows

-- the defaults of a table at an SCN up to a view's are the first of the view's
pub defaults-first : (h : History) (view : View) (n : ℕ) → HasColumns h view → n ≤ view.scn
    → defaults_at h view.table n ≡ take (columns_at h view.table n) view.defaults
defaults-first h view n has within =
    let grows = columns_at-grows h view.table n view.scn within in
    let enough = has.enough in
    ap (λ (t : Option TableInfo). take (columns_at h view.table n) (defaults_of t)) has.is
    ∙ (sym (take-take (columns_at h view.table n) (length view.columns) has.made.defaults (omega (arith, grows, enough)))
    ∙ ap (take (columns_at h view.table n)) (sym has.defaults))

-- a view shows the row of a unit as it shows the row that was committed there
pub unit_row-shown : (h : History) (view : View) (n rid : ℕ) → HasColumns h view → n ≤ view.scn
    → shown view (unit_row h view.table n rid) ≡ shown view (rows h view.table n rid)
unit_row-shown h view n rid has within =
    ap (λ (first : List Value). option_map (widened view.defaults) (option_map (widened first) (rows h view.table n rid)))
    (defaults-first h view n has within)
    ∙ wide_twice (take (columns_at h view.table n) view.defaults) view.defaults view.defaults (rows h view.table n rid)
    (λ values. widened-again view.defaults (columns_at h view.table n) values)

-- a view shows the same of a row at its SCN, and of the row of an older unit, unless a commit between them touched it
pub mended_by-shown : (h : History) (view : View) (unit_scn rid : ℕ) → HasColumns h view → unit_scn ≤ view.scn
    → (if touched_between h unit_scn view.scn view.table rid then shown view (rows h view.table view.scn rid)
    else shown view (unit_row h view.table unit_scn rid))
    ≡ shown view (rows h view.table view.scn rid)
mended_by-shown h view unit_scn rid has within = by (touched_between h unit_scn view.scn view.table rid) refl
  where
    by : (b : Bool) → touched_between h unit_scn view.scn view.table rid ≡ b
        → (if b then shown view (rows h view.table view.scn rid) else shown view (unit_row h view.table unit_scn rid))
        ≡ shown view (rows h view.table view.scn rid)
    by true touched = refl
    by false none =
        unit_row-shown h view unit_scn rid has within
        ∙ ap (shown view) (sym (rows-untouched h unit_scn view.scn view.table rid within none))

-- a view shows a row that it shows as it is
pub shown-again : (view : View) (row : Option Row) → shown view (shown view row) ≡ shown view row
shown-again view row = wide_twice view.defaults view.defaults view.defaults row (λ values. widened-once values)
  where
    widened-once : (values : Row) → widened view.defaults (widened view.defaults values) ≡ widened view.defaults values
    widened-once values =
        ap (λ (first : List Value). widened view.defaults (widened first values)) (sym (take_all (length view.defaults) view.defaults (le_refl _)))
        ∙ widened-again view.defaults (length view.defaults) values

-- own changes to rows that are lengthened leave what they leave of the rows as they were written, as the view shows it
pub fold-shown : (view : View) (rid : ℕ) (row other : Option Row) (changes : List Change) → shown view row ≡ shown view other
    → shown view (fold (row_after view.table rid) row changes) ≡ shown view (fold (row_after view.table rid) other changes)
fold-shown view rid row other [] same = same
fold-shown view rid row other (change ∷ changes) same =
    fold-shown view rid (row_after view.table rid row change) (row_after view.table rid other change) changes (by (is_to view.table rid change))
  where
    by : (b : Bool) → shown view (if b then change.row else row) ≡ shown view (if b then change.row else other)
    by true = refl
    by false = same
