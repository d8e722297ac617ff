-- What a scan takes of a pruned unit: without the unit's rows its part is the same.
use Rattle.std.proofs.Common.{◌≡◌, ◌≢◌, ℕ, zero, suc, ◌+◌, ◌-◌, ◌*◌, ◌<◌, ◌≤◌, ◌==◌, ◌&&◌, Bool, true, false, if◌then◌else◌, List, [], ◌∷◌, ◌⊎◌, inl, inr, length, map, drop, get_or, length-append, length-drop, subst, Option, Some, None, Contains, ⊎_elim, refl, sym, ap, ◌∙◌, arith}
use Rattle.std.specs.Prelude.{nat_lt}
use Rattle.std.specs.List.{cons_option, fold}
use Rattle.std.specs.Option.{option_map}
use Rattle.std.proofs.lemmas.List.{get_or-map, get_or_append_left, length-map, length-take-le}
use Rattle.std.proofs.lemmas.List.FromFn.{get_or-map-range_with_len, length-map-range_with_len}
use Rattle.im_values.specs.declared.truth.Truth.{Truth}
use Rattle.im_values.specs.declared.truth.Truth.TheVariants.{Yes, No, Unknown}
use Rattle.im_values.specs.declared.content.Content.{Content as Value}
use Rattle.im_values.specs.declared.content.Content.TheVariants.{Null}
use Rattle.im_values.specs.Widened.{widened}
use Rattle.im_syntax.specs.Condition.{CondOf}
use Rattle.im_syntax.specs.BoundFits.{value_at}
use Rattle.im_syntax.specs.declared.bound.Bound.{Bound}
use Rattle.im_eval.specs.Holds.{truth_of}
use Rattle.im_index.specs.Excludes.{StandsIn}
use Rattle.im_index.proofs.ForCallers.{excluded-not-kept}
use Rattle.im_history.specs.declared.change.Change.{Change}
use Rattle.im_history.specs.declared.view.View.{View}
use Rattle.im_history.specs.History.{History}
use Rattle.im_history.specs.Contents.{columns_of, present_rows, values_in}
use Rattle.im_history.specs.Rows.{Row, row_after, rows, present}
use Rattle.im_history.specs.Serving.{rows_in}
use Rattle.im_history.specs.Columns.{columns_at, columns_of as columns_of_table, defaults_at}
use Rattle.im_history.specs.declared.look.TableInfo.{TableInfo}
use Rattle.im_history.specs.Tables.{table_at}
use Rattle.im_history.specs.Units.{Content, rows_of_extent, unit_row}
use Rattle.im_history.specs.Views.{defaults_of, per_at, shown}
use Rattle.im_history.proofs.ColumnLaws.{defaults-long}
use Rattle.im_group.specs.Partials.{Numbered, Parts, groups_of, is_yes, keeps, kept, partial}
use Rattle.std.specs.FinMap as map_of
use Rattle.im_unit.specs.Holding.{row_of}
use Rattle.im_replies.specs.Mixes.{is_pruned}
use Rattle.im_scan.specs.Faces.{Shows, unit_of}
use Rattle.im_scan.specs.Parts.{fetched_after, taken_row, taken_rows}
use Rattle.im_scan.specs.Pinned.{IsPinned, Serves, seen_in}
use Rattle.im_scan.specs.inner.Steps.{laid_row}
use Rattle.im_scan.specs.declared.faces.Face.{Face}
use Rattle.im_scan.specs.declared.faces.Face.TheVariants.{Whole, Edges, Bare}
use Rattle.im_scan.proofs.PinLemmas.{taken-rows_seen}

-- ---- the rows of a unit stand in its columns

-- a row is one of a list
pub record Stands (rows : List Row) (row : Row) : Type 0 where
  pub place : ℕ
  pub inside : place < length rows
  pub is : get_or rows place [] ≡ row

present-stands : (rows : List (Option Row)) (i : ℕ) (row : Row) → get_or rows i None ≡ Some row → Stands (present_rows rows) row
present-stands [] i row e = absurd cc
present-stands (None ∷ rows) zero row e = absurd cc
present-stands (None ∷ rows) (suc i) row e = present-stands rows i row e
present-stands (Some other ∷ rows) zero row e = record { place = 0; inside = omega arith; is = cc }
present-stands (Some other ∷ rows) (suc i) row e =
    let rest = present-stands rows i row e in
    record { place = suc rest.place; inside = omega (arith, rest.inside); is = rest.is }

-- what a view shows of a row has the row's own values where it has any
value-shown : (defaults row : Row) (column : ℕ) → column < length row → value_at row column ≡ value_at (widened defaults row) column
value-shown defaults row column inside = sym (get_or_append_left row (drop (length row) defaults) Null column inside)

stands-in : (content : Content) (i : ℕ) (row shown_row : Row) → get_or content.rows i None ≡ Some row
    → ((column : ℕ) → column < content.columns → value_at row column ≡ value_at shown_row column) → StandsIn (columns_of content) shown_row
stands-in content i row shown_row e same column inside =
    let there = present-stands content.rows i row e in
    let rows = present_rows content.rows in
    let many = length-map-range_with_len (λ (c : ℕ). values_in c rows) 0 content.columns in
    let is : get_or (columns_of content) column [] ≡ values_in column rows =
    get_or-map-range_with_len (λ (c : ℕ). values_in c rows) 0 content.columns column column [] (omega (arith, inside, many)) (omega arith) in
    let value : get_or (values_in column rows) there.place (value_at row column) ≡ value_at row column =
    get_or-map (λ (r : Row). get_or r column Null) rows there.place [] (value_at row column) there.inside ∙ ap (λ (r : Row). get_or r column Null) there.is in
    let held : Contains (values_in column rows) (value_at row column) =
    (there.place, omega (arith, length-map rows (λ (r : Row). get_or r column Null), there.inside), value) in
    rw (is, ← same column (omega (arith, inside, many))) held

not-yes : (t : Truth) → t ≢ Yes → is_yes t ≡ false
not-yes Yes apart = absurd (apart refl)
not-yes No apart = refl
not-yes Unknown apart = refl

-- each row that a unit has is at least as wide as its columns
abbrev HasWide : Content → Type 0
HasWide content = (i : ℕ) (row : Row) → get_or content.rows i None ≡ Some row → content.columns ≤ length row

-- a pruned unit has no row that the condition keeps, as a view shows it
pruned-place : (content : Content) (condition : Option (CondOf ℕ Value)) (view : View) (i : ℕ) (row : Row) → is_pruned content condition ≡ true →
    HasWide content → shown view (get_or content.rows i None) ≡ Some row → keeps condition row ≡ false
pruned-place content None view i row out wide e = absurd cc
pruned-place content (Some condition) view i row out wide e = by (get_or content.rows i None) refl e
  where
    by : (held : Option Row) → get_or content.rows i None ≡ held → shown view held ≡ Some row → keeps (Some condition) row ≡ false
    by None is some = absurd cc
    by (Some own) is some =
        let same : widened view.defaults own ≡ row = cc in
        let long = wide i own is in
        subst (λ (r : Row). keeps (Some condition) r ≡ false) same
        (not-yes (truth_of condition (widened view.defaults own))
        (excluded-not-kept condition (columns_of content) (widened view.defaults own) out
        (stands-in content i own (widened view.defaults own) is (λ column inside. value-shown view.defaults own column (omega (arith, long, inside))))))

pruned-row : (content : Content) (condition : Option (CondOf ℕ Value)) (view : View) (rid : ℕ) (row : Row) → is_pruned content condition ≡ true →
    HasWide content → shown view (row_of content rid) ≡ Some row → keeps condition row ≡ false
pruned-row content condition view rid row out wide e = by (nat_lt rid content.first) e
  where
    by : (b : Bool) → shown view (if b then None else get_or content.rows (rid - content.first) None) ≡ Some row → keeps condition row ≡ false
    by true some = absurd cc
    by false some = pruned-place content condition view (rid - content.first) row out wide some

-- ---- with the unit and without

-- what is taken without the unit is what is taken with it, but where that is the unit's own row
abbrev pub SameBut : Option Row → Option Row → Option Row → Type 0
SameBut held with without = (without ≡ with) ⊎ ((without ≡ None) × (with ≡ held))

fold-same : {X : Type 0} (held : Option Row) (step : Option Row → X → Option Row) (xs : List X) (a b : Option Row) →
    ((x : X) (a b : Option Row) → SameBut held a b → SameBut held (step a x) (step b x)) → SameBut held a b →
    SameBut held (fold step a xs) (fold step b xs)
fold-same held step [] a b each same = same
fold-same held step (x ∷ xs) a b each same = fold-same held step xs (step a x) (step b x) each (each x a b same)

choose-same : (held : Option Row) (test : Bool) (row a b : Option Row) → SameBut held a b →
    SameBut held (if test then row else a) (if test then row else b)
choose-same held true row a b same = inl refl
choose-same held false row a b same = same

same-shown : (view : View) (held a b : Option Row) → SameBut held a b → SameBut (shown view held) (shown view a) (shown view b)
same-shown view held a b same =
    ⊎_elim (λ (e : b ≡ a). inl (ap (shown view) e))
    (λ (e : (b ≡ None) × (a ≡ held)). inr (ap (shown view) e.0, ap (shown view) e.1)) same

taken-same : (content : Content) (fetched : List (ℕ × Option Row)) (view : View) (rid : ℕ) →
    SameBut (shown view (row_of content rid)) (taken_row (Some content) fetched view rid) (taken_row None fetched view rid)
taken-same content fetched view rid =
    same-shown view (row_of content rid) (laid_row (Some content) fetched view rid) (laid_row None fetched view rid)
    (fold-same (row_of content rid) (row_after view.table rid) view.own
    (fold (fetched_after rid) (row_of content rid) fetched) (fold (fetched_after rid) None fetched)
    (λ (change : Change) a b same. choose-same (row_of content rid) ((change.table == view.table) && (change.rid == rid)) change.row a b same)
    (fold-same (row_of content rid) (fetched_after rid) fetched (row_of content rid) None
    (λ (row : ℕ × Option Row) a b same. choose-same (row_of content rid) (row.0 == rid) row.1 a b same)
    (inr (refl, refl))))

-- ---- kept rows

kept-one : (bound : Bound) (rid : ℕ) (held a b : Option Row) (later : List Numbered) →
    ((row : Row) → held ≡ Some row → keeps bound.filter row ≡ false) → SameBut held a b →
    kept bound (cons_option (option_map (λ r. (rid, r)) a) later) ≡ kept bound (cons_option (option_map (λ r. (rid, r)) b) later)
kept-one bound rid held a b later out same =
    ⊎_elim (λ (e : b ≡ a). ap (λ (row : Option Row). kept bound (cons_option (option_map (λ r. (rid, r)) row) later)) (sym e))
    (λ (e : (b ≡ None) × (a ≡ held)).
    by a (λ row is. out row (sym e.1 ∙ is))
    ∙ ap (λ (row : Option Row). kept bound (cons_option (option_map (λ r. (rid, r)) row) later)) (sym e.0))
    same
  where
    by : (row : Option Row) → ((r : Row) → row ≡ Some r → keeps bound.filter r ≡ false) →
        kept bound (cons_option (option_map (λ r. (rid, r)) row) later) ≡ kept bound later
    by None none = refl
    by (Some r) none = ap (λ (b : Bool). if b then (rid, r) ∷ kept bound later else kept bound later) (none r refl)

kept-same : (bound : Bound) (held f g : ℕ → Option Row) (first count : ℕ) →
    ((rid : ℕ) (row : Row) → held rid ≡ Some row → keeps bound.filter row ≡ false) → ((rid : ℕ) → SameBut (held rid) (f rid) (g rid)) →
    kept bound (present f first count) ≡ kept bound (present g first count)
kept-same bound held f g first zero out same = refl
kept-same bound held f g first (suc count) out same =
    kept-one bound first (held first) (f first) (g first) (present f (first + 1) count) (out first) (same first)
    ∙ kept-rest bound (option_map (λ (r : Row). (first, r)) (g first)) (present f (first + 1) count) (present g (first + 1) count)
    (kept-same bound held f g (first + 1) count out same)
  where
    kept-rest : (bound : Bound) (row : Option Numbered) (xs ys : List Numbered) → kept bound xs ≡ kept bound ys →
        kept bound (cons_option row xs) ≡ kept bound (cons_option row ys)
    kept-rest bound None xs ys e = e
    kept-rest bound (Some row) xs ys e = ap (λ (l : List Numbered). if keeps bound.filter row.1 then row ∷ l else l) e

-- a partial answer is that of the rows that are kept
pub partial-kept : (bound : Bound) (xs ys : List Numbered) → kept bound xs ≡ kept bound ys → partial bound xs ≡ partial bound ys
partial-kept bound xs ys e =
    ap (λ (rows : List Numbered). let part : Parts = (if bound.grouped then record { rows = []; groups = groups_of bound (map (λ r. r.1) rows) }
    else record { rows = rows; groups = map_of.empty }) in part) e

pruned-part : (bound : Bound) (content : Content) (fetched : List (ℕ × Option Row)) (view : View) (extent : ℕ) →
    is_pruned content bound.filter ≡ true → HasWide content →
    partial bound (taken_rows None fetched view extent) ≡ partial bound (taken_rows (Some content) fetched view extent)
pruned-part bound content fetched view extent out wide =
    sym (partial-kept bound (taken_rows (Some content) fetched view extent) (taken_rows None fetched view extent)
    (kept-same bound (λ rid. shown view (row_of content rid)) (taken_row (Some content) fetched view) (taken_row None fetched view) (extent * view.per) (rows_in view extent)
    (λ rid row is. pruned-row content bound.filter view rid row out wide is) (taken-same content fetched view)))

-- ---- what a unit has

-- as many defaults as columns, or none of both
defaults-many : (h : History) (table : ℕ) → length (defaults_of (table_at h table)) ≡ columns_of_table (table_at h table)
defaults-many h table = by (table_at h table) refl
  where
    by : (made : Option TableInfo) → table_at h table ≡ made → length (defaults_of made) ≡ columns_of_table made
    by None is = refl
    by (Some made) is = defaults-long h table made is

long-widened : (defaults row : Row) → length defaults ≤ length (widened defaults row)
long-widened defaults row = omega (arith, length-append row (drop (length row) defaults), length-drop (length row) defaults)

-- each row of a unit that serves a view is as wide as its columns
served-wide : (h : History) (view : View) (extent : ℕ) (content : Content) → Serves h view extent content → HasWide content
served-wide h view extent content serves =
    subst HasWide (sym serves.holds) (λ i row is. each (rows_of_extent (per_at h view.table) extent) i row is)
  where
    one : (rid : ℕ) (row : Row) → unit_row h view.table content.scn rid ≡ Some row → columns_at h view.table content.scn ≤ length row
    one rid row is = by (rows h view.table content.scn rid) is
      where
        defaults : Row
        defaults = defaults_at h view.table content.scn

        by : (held : Option Row) → option_map (widened defaults) held ≡ Some row → columns_at h view.table content.scn ≤ length row
        by None some = absurd cc
        by (Some own) some =
            let same : widened defaults own ≡ row = cc in
            subst (λ (r : Row). columns_at h view.table content.scn ≤ length r) same
            (omega (
              arith,
              long-widened defaults own,
              length-take-le (columns_at h view.table content.scn) (defaults_of (table_at h view.table))
                  (omega (arith, defaults-many h view.table)),
            ))

    each : (rids : List ℕ) (i : ℕ) (row : Row) → get_or (map (unit_row h view.table content.scn) rids) i None ≡ Some row
        → columns_at h view.table content.scn ≤ length row
    each [] i row is = absurd cc
    each (rid ∷ rids) zero row is = one rid row is
    each (rid ∷ rids) (suc i) row is = each rids i row is

-- ---- what a face shows

-- the part that is taken by a face is that of the rows that the view sees
pub part-seen : (h : History) (view : View) (extent : ℕ) (unit : Option Content) (fetched : List (ℕ × Option Row)) (face : Face) (bound : Bound) →
    Shows face unit bound → IsPinned h view extent unit fetched →
    partial bound (taken_rows (unit_of face) fetched view extent) ≡ partial bound (seen_in h view extent)
part-seen h view extent (Some content) fetched (Whole whole) bound shows pinned =
    ap (λ (c : Content). partial bound (taken_rows (Some c) fetched view extent)) shows.0
    ∙ ap (partial bound) (taken-rows_seen h view extent (Some content) fetched pinned)
part-seen h view extent None fetched (Whole whole) bound shows pinned = absurd shows
part-seen h view extent (Some content) fetched (Edges edges) bound shows pinned =
    pruned-part bound content fetched view extent shows.1 (served-wide h view extent content (pinned.serves content refl))
    ∙ ap (partial bound) (taken-rows_seen h view extent (Some content) fetched pinned)
part-seen h view extent None fetched (Edges edges) bound shows pinned = absurd shows
part-seen h view extent (Some content) fetched Bare bound shows pinned = absurd shows
part-seen h view extent None fetched Bare bound shows pinned = ap (partial bound) (taken-rows_seen h view extent None fetched pinned)
