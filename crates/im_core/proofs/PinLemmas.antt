-- The rows that a pin gives are those that were committed at its cursor's SCN.
use Rattle.std.proofs.Common.{◌≡◌, ℕ, zero, suc, ◌+◌, ◌-◌, ◌*◌, ◌<◌, ◌≤◌, ◌==◌, ◌&&◌, ◌||◌, Bool, true, false, if◌then◌else◌, List, [], ◌∷◌, ◌++◌, length, map, filter, take, Option, Some, None, refl, sym, ap, ap₂, subst, ◌∙◌, ⊎_elim, arith}
use Rattle.std.specs.Prelude.{nat_le, nat_lt}
use Rattle.std.specs.List.{cons_option, fold, list_any, range_with_len}
use Rattle.std.specs.Option.{option_map}
use Rattle.std.proofs.lemmas.Bool.{cases_lt}
use Rattle.std.proofs.lemmas.Bool.Decides.{nat_tests}
use Rattle.std.proofs.lemmas.List.{get_or_past, length-map}
use Rattle.std.proofs.lemmas.List.FromFn.{get_or-map-range_with_len, length-range_with_len}
use Rattle.std.proofs.lemmas.Map.Views.{any-filter_same}
use Rattle.im_values.specs.Widened.{widened}
use Rattle.im_history.specs.declared.limits.Limits.{Limits}
use Rattle.im_history.specs.declared.task.Task.{Task}
use Rattle.im_history.specs.declared.view.View.{View}
use Rattle.im_history.specs.Cursors.{Opened, cursor_at}
use Rattle.im_history.specs.History.{History}
use Rattle.im_history.specs.Legal.{IsLegal}
use Rattle.im_history.specs.Rows.{Row, present, row_after, rows}
use Rattle.im_history.specs.Serving.{committed_among, fetched_by, fetched_in, not_newer, rows_in, serving, serving_content, shown_all}
use Rattle.im_history.specs.Tables.{table_at}
use Rattle.im_history.specs.Units.{columns_at, content_at, rows_of_extent, stale, touched_between, unit, unit_row}
use Rattle.im_history.specs.Views.{defaults_of, per_at, shown}
use Rattle.im_history.proofs.RowLaws.{rows-append}
use Rattle.im_history.proofs.StaleLaws.{mended_by-shown, rows-untouched}
use Rattle.im_history.proofs.ViewLaws.{HasColumns, HasColumns-longer, cursor-columns}
use Rattle.im_core.specs.Answers.{cursor_view, view_of}
use Rattle.im_core.specs.Pins.{ArePins, IsPinAt, Pinning, row_given, row_given_to, row_lent, row_or_fetched, row_taken, rows_taken}
use Rattle.im_core.specs.Tasks.{as_wide, task_fetched, task_fetched_by, task_lent, task_serving}
use Rattle.im_core.proofs.OpenLemmas.{IsFixed, cursor-fixed, cursor-stays, fixed-longer, same_number}

-- ---- a row number among others

abbrev among : ℕ → List ℕ → Bool
among rid rids = list_any (λ r. r == rid) rids

among-below : (first count rid : ℕ) → rid < first → among rid (range_with_len first count) ≡ false
among-below first zero rid below = refl
among-below first (suc count) rid below =
    let apart : (first == rid) ≡ false = grind (arith, nat_tests, below) in
    rw apart (among-below (first + 1) count rid (omega (arith, below)))

among-past : (first count rid : ℕ) → first + count ≤ rid → among rid (range_with_len first count) ≡ false
among-past first zero rid past = refl
among-past first (suc count) rid past =
    let apart : (first == rid) ≡ false = grind (arith, nat_tests, past) in
    rw apart (among-past (first + 1) count rid (omega (arith, past)))

among-in : (first count rid : ℕ) → first ≤ rid → rid < first + count → among rid (range_with_len first count) ≡ true
among-in first zero rid from below = absurd (omega (arith, from, below))
among-in first (suc count) rid from below =
    by (first == rid) refl (λ next. among-in (first + 1) count rid next (omega (arith, below)))
  where
    by : (b : Bool) → (first == rid) ≡ b → (first + 1 ≤ rid → among rid (range_with_len (first + 1) count) ≡ true)
        → (b || among rid (range_with_len (first + 1) count)) ≡ true
    by true e later = refl
    by false e later = later (grind (arith, nat_tests, e, from))

among-filter : (p : ℕ → Bool) (rids : List ℕ) (rid : ℕ) → among rid (filter p rids) ≡ (p rid && among rid rids)
among-filter p rids rid = any-filter_same (λ r. r == rid) p (p rid) (λ r e. ap p (same_number r rid e)) rids

-- what was fetched by a function of the row number is found, if the row number is among them
looked-up : (f : ℕ → Option Row) (rids : List ℕ) (rid : ℕ) (row : Option Row)
    → fold (row_or_fetched rid) row (map (λ r. (r, f r)) rids) ≡ (if among rid rids then f rid else row)
looked-up f [] rid row = refl
looked-up f (r ∷ rids) rid row =
    looked-up f rids rid (if r == rid then f r else row) ∙ by (r == rid) (among rid rids) refl
  where
    by : (here later : Bool) → (r == rid) ≡ here
        → (if later then f rid else (if here then f r else row)) ≡ (if here || later then f rid else row)
    by true true e = refl
    by true false e = ap f (same_number r rid e)
    by false true e = refl
    by false false e = refl

-- ---- one pin

-- the row committed at a view's SCN, as the view shows it, at the row numbers of an extent; elsewhere none
abbrev committed_row : History → View → ℕ → ℕ → Option Row
committed_row h view extent rid = if among rid (rows_of_extent view.per extent) then shown view (rows h view.table view.scn rid) else None

lent-row : (h : History) (table extent n rid : ℕ)
    → row_lent (Some (content_at h table extent n)) rid ≡ (if among rid (rows_of_extent (per_at h table) extent) then unit_row h table n rid else None)
lent-row h table extent n rid =
    ⊎_elim
    (λ (below : rid < first).
    let before : nat_lt rid first ≡ true = grind (arith, nat_tests, below) in
    rw (before, among-below first per rid below) refl)
    (λ (from : first ≤ rid).
    let before : nat_lt rid first ≡ false = grind (arith, nat_tests, from) in
    rw before
    (⊎_elim
    (λ (inside : rid < first + per).
    get_or-map-range_with_len (unit_row h table n) first per (rid - first) rid None (omega (arith, from, inside)) (omega (arith, from))
    ∙ sym (ap (λ (b : Bool). if b then unit_row h table n rid else None) (among-in first per rid from inside)))
    (λ (past : first + per ≤ rid).
    get_or_past (map (unit_row h table n) (range_with_len first per)) (rid - first) None
    (let long : length (map (unit_row h table n) (range_with_len first per)) ≡ per = length-map _ _ ∙ length-range_with_len first per in
    omega (arith, long, past))
    ∙ sym (ap (λ (b : Bool). if b then unit_row h table n rid else None) (among-past first per rid past)))
    (cases_lt rid (first + per))))
    (cases_lt rid first)
  where
    per : ℕ
    per = per_at h table

    first : ℕ
    first = extent * per

-- a unit's rows and the rows that are stale beside it at this SCN or a later one: each is as it is to be, the fetched one where a commit
-- touched it, else the unit's
with-stale : (h : History) (table extent n scn rid : ℕ) (unit's fetched : ℕ → Option Row)
    → (if touched_between h n scn table rid then fetched rid else unit's rid) ≡ fetched rid
    → fold (row_or_fetched rid) (if among rid (rows_of_extent (per_at h table) extent) then unit's rid else None)
    (map (λ r. (r, fetched r)) (stale h table extent n scn))
    ≡ (if among rid (rows_of_extent (per_at h table) extent) then fetched rid else None)
with-stale h table extent n scn rid unit's fetched mends =
    looked-up fetched (stale h table extent n scn) rid (if among rid (rows_of_extent (per_at h table) extent) then unit's rid else None)
    ∙ (ap (λ (b : Bool). if b then fetched rid else (if among rid (rows_of_extent (per_at h table) extent) then unit's rid else None))
    (among-filter (touched_between h n scn table) (rows_of_extent (per_at h table) extent) rid)
    ∙ by (among rid (rows_of_extent (per_at h table) extent)) (touched_between h n scn table rid) mends)
  where
    by : (inside touched : Bool) → (if touched then fetched rid else unit's rid) ≡ fetched rid
        → (if touched && inside then fetched rid else (if inside then unit's rid else None)) ≡ (if inside then fetched rid else None)
    by true true mended = refl
    by true false mended = mended
    by false true mended = refl
    by false false mended = refl

-- what a view shows of rows that were read
shown-among : (h : History) (view : View) (rids : List ℕ)
    → shown_all view (committed_among h view rids) ≡ map (λ r. (r, shown view (rows h view.table view.scn r))) rids
shown-among h view [] = refl
shown-among h view (rid ∷ rids) =
    ap (λ (l : List (ℕ × Option Row)). (rid, shown view (rows h view.table view.scn rid)) ∷ l) (shown-among h view rids)

shown-if : (view : View) (b : Bool) (row : Option Row) → shown view (if b then row else None) ≡ (if b then shown view row else None)
shown-if view true row = refl
shown-if view false row = refl

-- beside a unit, the same of a view
with-unit : (h : History) (view : View) (extent n rid : ℕ) → IsFixed h view → HasColumns h view → n ≤ view.scn
    → fold (row_or_fetched rid) (shown view (row_lent (Some (content_at h view.table extent n)) rid)) (shown_all view (fetched_by h view extent (Some n)))
    ≡ committed_row h view extent rid
with-unit h view extent n rid is has old =
    ap₂ (λ (row : Option Row) (rows : List (ℕ × Option Row)). fold (row_or_fetched rid) row rows)
    (ap (shown view) (lent-row h view.table extent n rid)
    ∙ shown-if view (among rid (rows_of_extent (per_at h view.table) extent)) (unit_row h view.table n rid))
    (shown-among h view (stale h view.table extent n view.scn))
    ∙ (with-stale h view.table extent n view.scn rid (λ r. shown view (unit_row h view.table n r)) (λ r. shown view (rows h view.table view.scn r))
    (mended_by-shown h view n rid has old)
    ∙ ap (λ (per : ℕ). if among rid (rows_of_extent per extent) then shown view (rows h view.table view.scn rid) else None) (sym is.per))

-- all row numbers of the extent that the view has: behind them none was committed
without-unit : (h : History) (view : View) (extent rid : ℕ) → IsFixed h view
    → fold (row_or_fetched rid) None (shown_all view (fetched_by h view extent None)) ≡ committed_row h view extent rid
without-unit h view extent rid is =
    ap (λ (rows : List (ℕ × Option Row)). fold (row_or_fetched rid) None rows) (shown-among h view (range_with_len first (rows_in view extent)))
    ∙ (looked-up (λ r. shown view (rows h view.table view.scn r)) (range_with_len first (rows_in view extent)) rid None
    ∙ ⊎_elim
    (λ (inside : rid < first + rows_in view extent). ⊎_elim
    (λ (below : rid < first). same (among-below first (rows_in view extent) rid below) (among-below first view.per rid below))
    (λ (from : first ≤ rid). same (among-in first (rows_in view extent) rid from inside) (among-in first view.per rid from (omega (arith, inside))))
    (cases_lt rid first))
    (λ (past : first + rows_in view extent ≤ rid).
    ap (λ (b : Bool). if b then there else None) (among-past first (rows_in view extent) rid past)
    ∙ ⊎_elim
    (λ (given : rid < view.rows).
    sym (ap (λ (b : Bool). if b then there else None) (among-past first view.per rid (omega (arith, past, given)))))
    (λ (ungiven : view.rows ≤ rid). sym (nothing (among rid (range_with_len first view.per)) (ap (shown view) (is.ungiven rid ungiven))))
    (cases_lt rid view.rows))
    (cases_lt rid (first + rows_in view extent)))
  where
    first : ℕ
    first = extent * view.per

    there : Option Row
    there = shown view (rows h view.table view.scn rid)

    same : {b c d : Bool} → b ≡ d → c ≡ d → (if b then there else None) ≡ (if c then there else None)
    same one two = ap (λ (b : Bool). if b then there else None) (one ∙ sym two)

    nothing : (b : Bool) → there ≡ None → (if b then there else None) ≡ None
    nothing true none = none
    nothing false none = refl

pub not_newer-old : (most : ℕ) (current : Option ℕ) (n : ℕ) → not_newer most current ≡ Some n → n ≤ most
not_newer-old most None n is = absurd cc
not_newer-old most (Some unit_scn) n is = by (nat_le unit_scn most) refl is
  where
    by : (b : Bool) → nat_le unit_scn most ≡ b → ◌≡◌ {A = Option ℕ} (if b then Some unit_scn else None) (Some n) → n ≤ most
    by true within some = let same : unit_scn ≡ n = cc in grind (arith, nat_tests, same, within)
    by false newer some = absurd cc

-- an SCN that is as wide, and not newer
pub record IsServing (h : History) (task : Task) (at : ℕ) : Type 0 where
  pub old : at ≤ task.scn
  pub wide : columns_at h task.table at ≡ task.columns

pub serving-is : (h : History) (task : Task) (at : ℕ) → task_serving h task ≡ Some at → IsServing h task at
serving-is h task at = by (not_newer task.scn (unit h task.table task.extent)) refl
  where
    one : (n : ℕ) (b : Bool) → not_newer task.scn (unit h task.table task.extent) ≡ Some n → (columns_at h task.table n == task.columns) ≡ b
        → ◌≡◌ {A = Option ℕ} (if b then Some n else None) (Some at) → IsServing h task at
    one n true lent same some =
        let is : n ≡ at = cc in
        subst (IsServing h task) is (record { old = not_newer-old task.scn (unit h task.table task.extent) n lent; wide = same_number _ _ same })
    one n false lent same some = absurd cc

    by : (o : Option ℕ) → not_newer task.scn (unit h task.table task.extent) ≡ o → as_wide h task.table task.columns o ≡ Some at → IsServing h task at
    by None lent is = absurd cc
    by (Some n) lent is = one n (columns_at h task.table n == task.columns) lent refl is

-- the row that a unit of as many columns holds is the row that is to be held, unless a commit touched it since
mended-task : (h : History) (task : Task) (at rid : ℕ) → task.columns ≡ columns_at h task.table task.scn → IsServing h task at
    → (if touched_between h at task.scn task.table rid then unit_row h task.table task.scn rid else unit_row h task.table at rid)
    ≡ unit_row h task.table task.scn rid
mended-task h task at rid columns serves = by (touched_between h at task.scn task.table rid) refl
  where
    by : (b : Bool) → touched_between h at task.scn task.table rid ≡ b
        → (if b then unit_row h task.table task.scn rid else unit_row h task.table at rid) ≡ unit_row h task.table task.scn rid
    by true touched = refl
    by false none =
        ap₂ (λ (k : ℕ) (row : Option Row). option_map (widened (take k (defaults_of (table_at h task.table)))) row) (serves.wide ∙ columns)
        (sym (rows-untouched h at task.scn task.table rid serves.old none))

-- a unit that a build is lent, with the rows that are fetched in their places
pub mended-rows : (history : History) (task : Task) (at : ℕ) → task.columns ≡ columns_at history task.table task.scn → task_serving history task ≡ Some at
    → (rid : ℕ) → task.extent * per_at history task.table ≤ rid → rid < (task.extent + 1) * per_at history task.table
    → row_given (record { unit = task_lent history task; fetched = task_fetched history task }) rid ≡ unit_row history task.table task.scn rid
mended-rows history task at columns is rid from below =
    ap (λ (lent : Option ℕ). row_given (record { unit = option_map (content_at history task.table task.extent) lent; fetched = task_fetched_by history task lent }) rid) is
    ∙ (ap (λ (row : Option Row). fold (row_or_fetched rid) row (task_fetched_by history task (Some at))) (lent-row history task.table task.extent at rid)
    ∙ (with-stale history task.table task.extent at task.scn rid (unit_row history task.table at) (unit_row history task.table task.scn)
    (mended-task history task at rid columns (serving-is history task at is))
    ∙ ap (λ (b : Bool). if b then unit_row history task.table task.scn rid else None)
    (among-in (task.extent * per_at history task.table) (per_at history task.table) rid from (omega (arith, below)))))

-- whatever serves an open cursor's view
served : (h : History) (view : View) (extent rid : ℕ) → IsFixed h view → HasColumns h view
    → row_given_to view (record { unit = serving_content h view extent; fetched = fetched_in h view extent }) rid ≡ committed_row h view extent rid
served h view extent rid is has = by (serving h view extent) (not_newer-old view.scn (unit h view.table extent))
  where
    by : (current : Option ℕ) → ((n : ℕ) → current ≡ Some n → n ≤ view.scn)
        → fold (row_or_fetched rid) (shown view (row_lent (option_map (content_at h view.table extent) current) rid))
        (shown_all view (fetched_by h view extent current))
        ≡ committed_row h view extent rid
    by None old = without-unit h view extent rid is
    by (Some n) old = with-unit h view extent n rid is has (old n refl)

pinned-row : (h : History) (who cursor extent rid : ℕ) (pin : Pinning) → IsPinAt h who cursor extent pin → IsFixed h (cursor_view h who cursor)
    → HasColumns h (cursor_view h who cursor)
    → row_given_to (cursor_view h who cursor) pin rid ≡ committed_row h (cursor_view h who cursor) extent rid
pinned-row h who cursor extent rid pin pinned is has =
    ap (λ (p : Pinning). row_given_to (cursor_view h who cursor) p rid)
    (ap₂ (λ unit fetched. record { unit = unit; fetched = fetched }) pinned.unit pinned.fetched)
    ∙ served h (cursor_view h who cursor) extent rid is has

-- the cursor of a pin is open
pub record IsOpenAt (h : History) (who cursor : ℕ) : Type 0 where
  pub found : Opened
  pub is : cursor_at h who cursor ≡ Some found

pub is_open_at : (h : History) (who cursor extent : ℕ) → extent < (cursor_view h who cursor).extents → IsOpenAt h who cursor
is_open_at h who cursor extent = by (cursor_at h who cursor) refl
  where
    by : (o : Option Opened) → cursor_at h who cursor ≡ o → extent < (view_of o).extents → IsOpenAt h who cursor
    by None e within = absurd (omega (arith, within))
    by (Some found) e within = record { found = found; is = e }

view-fixed : (limits : Limits) (h : History) (who cursor : ℕ) → IsLegal limits h → IsOpenAt h who cursor → IsFixed h (cursor_view h who cursor)
view-fixed limits h who cursor legal at =
    subst (λ (o : Option Opened). IsFixed h (view_of o)) (sym at.is) (cursor-fixed limits h who cursor at.found legal at.is)

pub view-columns : (limits : Limits) (h : History) (who cursor : ℕ) → IsLegal limits h → IsOpenAt h who cursor → HasColumns h (cursor_view h who cursor)
view-columns limits h who cursor legal at =
    subst (λ (o : Option Opened). HasColumns h (view_of o)) (sym at.is) (cursor-columns limits h who cursor at.found legal at.is)

pub committed-rows : (limits : Limits) (history : History) (who cursor extent : ℕ) (pin : Pinning) → IsLegal limits history
    → IsPinAt history who cursor extent pin
    → (rid : ℕ) → extent * (cursor_view history who cursor).per ≤ rid → rid < (extent + 1) * (cursor_view history who cursor).per
    → row_given_to (cursor_view history who cursor) pin rid
    ≡ shown (cursor_view history who cursor) (rows history (cursor_view history who cursor).table (cursor_view history who cursor).scn rid)
committed-rows limits history who cursor extent pin legal pinned rid from below =
    let view = cursor_view history who cursor in
    pinned-row history who cursor extent rid pin pinned
    (view-fixed limits history who cursor legal (is_open_at history who cursor extent pinned.within))
    (view-columns limits history who cursor legal (is_open_at history who cursor extent pinned.within))
    ∙ ap (λ (b : Bool). if b then shown view (rows history view.table view.scn rid) else None)
    (among-in (extent * view.per) view.per rid from (omega (arith, below)))

-- ---- two pins

-- the cursor has the same view at both
record HasOneView (history since : History) (who cursor : ℕ) : Type 0 where
  now : cursor_view (history ++ since) who cursor ≡ cursor_view history who cursor
  is : IsFixed history (cursor_view history who cursor)
  has : HasColumns history (cursor_view history who cursor)

one-view : (history since : History) (who cursor extent : ℕ) (first later : Pinning) → ArePins history since who cursor extent first later
    → HasOneView history since who cursor
one-view history since who cursor extent first later pinned =
    let at = is_open_at history who cursor extent pinned.one.within in
    record {
      now = ap view_of (cursor-stays history since who cursor at.found pinned.stays at.is ∙ sym at.is);
      is = view-fixed pinned.limits history who cursor pinned.legal at;
      has = view-columns pinned.limits history who cursor pinned.legal at;
    }

later-row : (history since : History) (view : View) (extent rid : ℕ) → IsFixed history view
    → committed_row (history ++ since) view extent rid ≡ committed_row history view extent rid
later-row history since view extent rid is =
    ap (λ (row : Option Row). if among rid (rows_of_extent view.per extent) then shown view row else None)
    (rows-append history since view.table view.scn rid is.known)

pub same-rows : (history since : History) (who cursor extent : ℕ) (first later : Pinning) → ArePins history since who cursor extent first later
    → (rid : ℕ) → row_given_to (cursor_view history who cursor) first rid ≡ row_given_to (cursor_view (history ++ since) who cursor) later rid
same-rows history since who cursor extent first later pinned rid =
    let view = one-view history since who cursor extent first later pinned in
    let still = subst (IsFixed (history ++ since)) (sym view.now) (fixed-longer history since (cursor_view history who cursor) view.is) in
    let has = subst (HasColumns (history ++ since)) (sym view.now) (HasColumns-longer history since (cursor_view history who cursor) view.has) in
    pinned-row history who cursor extent rid first pinned.one view.is view.has
    ∙ (sym (later-row history since (cursor_view history who cursor) extent rid view.is)
    ∙ (ap (λ (v : View). committed_row (history ++ since) v extent rid) (sym view.now)
    ∙ sym (pinned-row (history ++ since) who cursor extent rid later pinned.other still has)))

present-same : (f g : ℕ → Option Row) (first count : ℕ) → ((rid : ℕ) → f rid ≡ g rid) → present f first count ≡ present g first count
present-same f g first zero same = refl
present-same f g first (suc count) same =
    ap (λ (row : Option Row). cons_option (option_map (λ r. (first, r)) row) (present f (first + 1) count)) (same first)
    ∙ ap (cons_option (option_map (λ (r : Row). (first, r)) (g first))) (present-same f g (first + 1) count same)

pub one-scan : (history since : History) (who cursor extent : ℕ) (first later : Pinning) → ArePins history since who cursor extent first later
    → rows_taken (cursor_view history who cursor) extent first ≡ rows_taken (cursor_view (history ++ since) who cursor) extent later
one-scan history since who cursor extent first later pinned =
    let view = cursor_view history who cursor in
    let one = one-view history since who cursor extent first later pinned in
    present-same (row_taken view first) (row_taken view later) (extent * view.per) (rows_in view extent)
    (λ rid. ap (λ (row : Option Row). shown view (fold (row_after view.table rid) row view.own))
    (same-rows history since who cursor extent first later pinned rid
    ∙ ap (λ (v : View). row_given_to v later rid) one.now))
    ∙ ap (λ (v : View). rows_taken v extent later) (sym one.now)
