-- The row that a scan takes of an extent that was pinned is the row that its view sees.
use Rattle.std.proofs.Common.{◌≡◌, ℕ, zero, suc, ◌+◌, ◌-◌, ◌*◌, ◌<◌, ◌≤◌, ◌==◌, ◌&&◌, ◌||◌, Bool, true, false, if◌then◌else◌, List, [], ◌∷◌, get_or, map, filter, take, Option, Some, None, refl, sym, ap, ◌∙◌, arith}
use Rattle.std.specs.Prelude.{nat_lt}
use Rattle.std.specs.List.{fold, range_with_len, list_any, cons_option}
use Rattle.std.specs.Option.{option_map}
use Rattle.std.proofs.lemmas.Bool.Decides.{nat_tests}
use Rattle.std.proofs.lemmas.List.FromFn.{get_or-map-range_with_len}
use Rattle.std.proofs.lemmas.Map.Views.{any-filter_same}
use Rattle.im_values.specs.declared.content.Content.{Content as Value}
use Rattle.im_values.specs.Widened.{widened}
use Rattle.im_values.proofs.WideLaws.{widened-again}
use Rattle.im_history.specs.declared.view.View.{View}
use Rattle.im_history.specs.History.{History}
use Rattle.im_history.specs.Rows.{Row, rows, seen, present}
use Rattle.im_history.specs.Units.{Content, content_at, rows_of_extent, stale, touched_between, unit_row}
use Rattle.im_history.specs.Views.{per_at, seen_by, shown}
use Rattle.im_history.proofs.StaleLaws.{fold-shown, rows-untouched, shown-again}
use Rattle.im_history.specs.Columns.{columns_at, defaults_at}
use Rattle.im_history.specs.Serving.{rows_in, committed_in, fetched_by, shown_all}
use Rattle.im_unit.specs.Holding.{row_of}
use Rattle.im_scan.specs.Parts.{AreShown, row_in_unit, fetched_after, taken_row, taken_rows}
use Rattle.im_scan.specs.Pinned.{HasDefaults, Serves, IsPinned, seen_in}

-- ---- a row number among those fetched

same_number : (n m : ℕ) → (n == m) ≡ true → n ≡ m
same_number n m e = grind (arith, nat_tests, e)

-- what was fetched by a function of the row number is found, if the row number is among them
looked-up : (f : ℕ → Option Row) (rids : List ℕ) (rid : ℕ) (row : Option Row)
    → fold (fetched_after rid) row (map (λ r. (r, f r)) rids) ≡ (if list_any (λ r. r == rid) rids then f rid else row)
looked-up f [] rid row = refl
looked-up f (r ∷ rids) rid row =
    looked-up f rids rid (if r == rid then f r else row) ∙ by (r == rid) (list_any (λ k. k == rid) rids) refl
  where
    by : (here later : Bool) → (r == rid) ≡ here
        → (if later then f rid else (if here then f r else row)) ≡ (if here || later then f rid else row)
    by true true e = refl
    by true false e = ap f (same_number r rid e)
    by false true e = refl
    by false false e = refl

among-range : (first count rid : ℕ) → first ≤ rid → rid < first + count
    → list_any (λ r. r == rid) (range_with_len first count) ≡ true
among-range first zero rid from below = absurd (omega (arith, from, below))
among-range first (suc count) rid from below =
    by (first == rid) refl (λ next. among-range (first + 1) count rid next (omega (arith, below)))
  where
    by : (b : Bool) → (first == rid) ≡ b
        → (first + 1 ≤ rid → list_any (λ r. r == rid) (range_with_len (first + 1) count) ≡ true)
        → (b || list_any (λ r. r == rid) (range_with_len (first + 1) count)) ≡ true
    by true e later = refl
    by false e later = later (grind (arith, nat_tests, e, from))

among-filter : (p : ℕ → Bool) (rids : List ℕ) (rid : ℕ) → list_any (λ r. r == rid) rids ≡ true
    → list_any (λ r. r == rid) (filter p rids) ≡ p rid
among-filter p rids rid among =
    any-filter_same (λ r. r == rid) p (p rid) (λ r e. ap p (same_number r rid e)) rids
    ∙ (ap (λ (b : Bool). p rid && b) among ∙ last (p rid))
  where
    last : (b : Bool) → (b && true) ≡ b
    last true = refl
    last false = refl

-- ---- the row before the view's own changes

-- what was read of row numbers, as the view shows it
shown-among : (view : View) (f : ℕ → Option Row) (rids : List ℕ) → shown_all view (map (λ r. (r, f r)) rids) ≡ map (λ r. (r, shown view (f r))) rids
shown-among view f [] = refl
shown-among view f (rid ∷ rids) = ap (λ (l : List (ℕ × Option Row)). (rid, shown view (f rid)) ∷ l) (shown-among view f rids)

fetched-committed : (h : History) (view : View) (extent rid : ℕ) → extent * view.per ≤ rid
    → rid < extent * view.per + rows_in view extent
    → fold (fetched_after rid) None (shown_all view (committed_in h view extent)) ≡ shown view (rows h view.table view.scn rid)
fetched-committed h view extent rid from below =
    ap (fold (fetched_after rid) None)
    (shown-among view (rows h view.table view.scn) (range_with_len (extent * view.per) (rows_in view extent)))
    ∙ (looked-up (λ r. shown view (rows h view.table view.scn r)) (range_with_len (extent * view.per) (rows_in view extent)) rid None
    ∙ ap (λ (b : Bool). if b then shown view (rows h view.table view.scn rid) else None)
    (among-range (extent * view.per) (rows_in view extent) rid from below))

content-row : (h : History) (table extent n rid : ℕ) → extent * per_at h table ≤ rid
    → rid < extent * per_at h table + per_at h table → row_of (content_at h table extent n) rid ≡ unit_row h table n rid
content-row h table extent n rid from below =
    let inside : nat_lt rid (extent * per_at h table) ≡ false = grind (arith, nat_tests) in
    ap (λ (b : Bool). if b then None else get_or (map (unit_row h table n) (rows_of_extent (per_at h table) extent))
    (rid - extent * per_at h table) None) inside
    ∙ get_or-map-range_with_len (unit_row h table n) (extent * per_at h table) (per_at h table) (rid - extent * per_at h table) rid
    None (omega (arith, from, below)) (omega (arith, from))

fetched-stale : (h : History) (view : View) (extent rid : ℕ) (content : Content) (row : Option Row)
    → extent * per_at h view.table ≤ rid → rid < extent * per_at h view.table + per_at h view.table
    → fold (fetched_after rid) row (shown_all view (fetched_by h view extent (Some content.scn))) ≡
    (if touched_between h content.scn view.scn view.table rid then shown view (rows h view.table view.scn rid) else row)
fetched-stale h view extent rid content row from below =
    ap (fold (fetched_after rid) row)
    (shown-among view (rows h view.table view.scn) (stale h view.table extent content.scn view.scn))
    ∙ (looked-up (λ r. shown view (rows h view.table view.scn r)) (stale h view.table extent content.scn view.scn) rid row
    ∙ ap (λ (b : Bool). if b then shown view (rows h view.table view.scn rid) else row)
    (among-filter (touched_between h content.scn view.scn view.table) (rows_of_extent (per_at h view.table) extent) rid
    (among-range (extent * per_at h view.table) (per_at h view.table) rid from below)))

wide-again : (first both : List Value) (n : ℕ) (row : Option Row) → first ≡ take n both
    → option_map (widened both) (option_map (widened first) row) ≡ option_map (widened both) row
wide-again first both n None is = refl
wide-again first both n (Some row) is = ap (λ (l : List Value). Some (widened both (widened l row))) is ∙ ap Some (widened-again both n row)

-- a view shows the row of an older unit as it shows the row that was committed there
pub unit-shown : (h : History) (view : View) (n rid : ℕ) → HasDefaults h view → n ≤ view.scn
    → shown view (unit_row h view.table n rid) ≡ shown view (rows h view.table n rid)
unit-shown h view n rid has old =
    wide-again (defaults_at h view.table n) view.defaults (columns_at h view.table n) (rows h view.table n rid) (has n old)

served-row : (h : History) (view : View) (extent rid : ℕ) (content : Content) → HasDefaults h view → Serves h view extent content
    → extent * per_at h view.table ≤ rid → rid < extent * per_at h view.table + per_at h view.table
    → shown view (fold (fetched_after rid) (row_of content rid) (shown_all view (fetched_by h view extent (Some content.scn))))
    ≡ shown view (rows h view.table view.scn rid)
served-row h view extent rid content has serves from below =
    ap (shown view)
    (fetched-stale h view extent rid content (row_of content rid) from below
    ∙ ap (λ (row : Option Row). if touched_between h content.scn view.scn view.table rid then shown view (rows h view.table view.scn rid) else row)
    (ap (λ (c : Content). row_of c rid) serves.holds ∙ content-row h view.table extent content.scn rid from below))
    ∙ by (touched_between h content.scn view.scn view.table rid) refl
  where
    by : (b : Bool) → touched_between h content.scn view.scn view.table rid ≡ b
        → shown view (if b then shown view (rows h view.table view.scn rid) else unit_row h view.table content.scn rid)
        ≡ shown view (rows h view.table view.scn rid)
    by true touched = shown-again view (rows h view.table view.scn rid)
    by false none =
        unit-shown h view content.scn rid has serves.old
        ∙ ap (shown view) (sym (rows-untouched h content.scn view.scn view.table rid serves.old none))

-- the extent's row numbers that the view has are the extent's
within-per : (view : View) (extent per rid : ℕ) → view.per ≡ per → extent * view.per ≤ rid
    → rid < extent * view.per + rows_in view extent → (extent * per ≤ rid) × (rid < extent * per + per)
within-per view extent per rid is from below = rw (← is) (from, omega (arith, below))

committed-row : (h : History) (view : View) (extent rid : ℕ) (unit : Option Content) (fetched : List (ℕ × Option Row))
    → IsPinned h view extent unit fetched → extent * view.per ≤ rid → rid < extent * view.per + rows_in view extent
    → shown view (fold (fetched_after rid) (row_in_unit unit rid) fetched) ≡ shown view (rows h view.table view.scn rid)
committed-row h view extent rid None fetched pinned from below =
    ap (λ (l : List (ℕ × Option Row)). shown view (fold (fetched_after rid) None l)) pinned.is
    ∙ (ap (shown view) (fetched-committed h view extent rid from below) ∙ shown-again view (rows h view.table view.scn rid))
committed-row h view extent rid (Some content) fetched pinned from below =
    let inside = within-per view extent (per_at h view.table) rid pinned.per from below in
    ap (λ (l : List (ℕ × Option Row)). shown view (fold (fetched_after rid) (row_of content rid) l)) pinned.is
    ∙ served-row h view extent rid content pinned.defaults (pinned.serves content refl) inside.0 inside.1

-- what was fetched is as the view shows it
pub are-shown : (view : View) (fetched read : List (ℕ × Option Row)) → fetched ≡ shown_all view read → AreShown view fetched
are-shown view fetched read is = ap (shown_all view) is ∙ (again read ∙ sym is)
  where
    again : (rows : List (ℕ × Option Row)) → shown_all view (shown_all view rows) ≡ shown_all view rows
    again [] = refl
    again (row ∷ rows) =
        ap (λ (r : Option Row). (row.0, r) ∷ shown_all view (shown_all view rows)) (shown-again view row.1)
        ∙ ap (λ (l : List (ℕ × Option Row)). (row.0, shown view row.1) ∷ l) (again rows)

-- ---- the row that the view sees

taken-seen : (h : History) (view : View) (extent rid : ℕ) (unit : Option Content) (fetched : List (ℕ × Option Row))
    → IsPinned h view extent unit fetched → extent * view.per ≤ rid → rid < extent * view.per + rows_in view extent
    → taken_row unit fetched view rid ≡ seen_by h view rid
unfolding seen
taken-seen h view extent rid unit fetched pinned from below =
    fold-shown view rid (fold (fetched_after rid) (row_in_unit unit rid) fetched) (rows h view.table view.scn rid) view.own
    (committed-row h view extent rid unit fetched pinned from below)

pub present-same : (f g : ℕ → Option Row) (first count : ℕ) → ((rid : ℕ) → first ≤ rid → rid < first + count → f rid ≡ g rid)
    → present f first count ≡ present g first count
present-same f g first zero same = refl
present-same f g first (suc count) same =
    ap (λ (row : Option Row). cons_option (option_map (λ r. (first, r)) row) (present f (first + 1) count))
    (same first (omega arith) (omega arith))
    ∙ ap (cons_option (option_map (λ (r : Row). (first, r)) (g first)))
    (present-same f g (first + 1) count (λ rid from below. same rid (omega (arith, from)) (omega (arith, below))))

-- what a scan takes of an extent that was pinned is what the view sees in it
pub taken-rows_seen : (h : History) (view : View) (extent : ℕ) (unit : Option Content) (fetched : List (ℕ × Option Row))
    → IsPinned h view extent unit fetched → taken_rows unit fetched view extent ≡ seen_in h view extent
taken-rows_seen h view extent unit fetched pinned =
    present-same (taken_row unit fetched view) (seen_by h view) (extent * view.per) (rows_in view extent)
    (λ rid from below. taken-seen h view extent rid unit fetched pinned from below)
