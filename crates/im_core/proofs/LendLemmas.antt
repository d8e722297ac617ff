-- What a pin is lent of an extent, and what it reads beside that.
use Rattle.std.proofs.Common.{◌≡◌, ℕ, ◌==◌, ◌<◌, ◌≤◌, Bool, true, false, List, length, map, take, nat_le, Option, Some, None, if◌then◌else◌, refl, sym, ap, ◌∙◌, subst}
use Rattle.std.specs.Option.{option_map}
use Rattle.std.proofs.lemmas.List.{length-map}
use Rattle.std.proofs.lemmas.List.FromFn.{length-range_with_len}
use Rattle.im_values.specs.declared.content.Content.{Content as Value}
use Rattle.im_history.specs.declared.limits.Limits.{Limits}
use Rattle.im_history.specs.declared.look.TableInfo.{TableInfo}
use Rattle.im_history.specs.declared.view.View.{View}
use Rattle.im_history.specs.Fetched.{all_widened}
use Rattle.im_history.specs.History.{History}
use Rattle.im_history.specs.Horizon.{horizon}
use Rattle.im_history.specs.Legal.{Exists}
use Rattle.im_history.specs.Rows.{Row, rows}
use Rattle.im_history.specs.Serving.{committed_in, fetched_in, not_newer, read_in, rows_in, serving_content, shown_all}
use Rattle.im_history.specs.Stored.{Stored}
use Rattle.im_history.specs.Tables.{table_at}
use Rattle.im_history.specs.Units.{Content, columns_at, content_at, unit}
use Rattle.im_history.specs.Views.{defaults_of}
use Rattle.im_history.proofs.ShapeLaws.{per_at-some}
use Rattle.im_history.proofs.ViewLaws.{HasColumns}
use Rattle.im_blocks.specs.Chains.{AllVersions, rows_among}
use Rattle.im_blocks.proofs.ForCallers.{rows_among_kept}
use Rattle.im_directory.specs.Agrees.{Agrees}
use Rattle.im_directory.specs.Slots.{Kept, Stock, stale_told, told_at, unit_in}
use Rattle.im_directory.proofs.ForCallers.{stale-of}
use Rattle.im_txn.specs.declared.cursor.Cursor.{Cursor}
use Rattle.im_core.specs.Answers.{cursor_view}
use Rattle.im_core.specs.Tasks.{as_wide}
use Rattle.im_core.specs.inner.Holds.{Caches, Holds}
use Rattle.im_core.specs.inner.Lending.{content_as_wide, stale_in}
use Rattle.im_core.proofs.FetchLemmas.{HasView}
use Rattle.im_core.proofs.PinLemmas.{is_open_at, view-columns}
use Rattle.im_core.proofs.UnitLemmas.{unit-by}

-- ---- the directory's unit and journal

some_or_none : {U : Type 0} (content : U → Content) (h : History) (table extent : ℕ) (of : U) (b : Bool)
    → content of ≡ content_at h table extent (content of).scn
    → ◌≡◌ {A = Option Content} (if b then Some (content of) else None)
    (option_map (content_at h table extent) (if b then Some (content of).scn else None))
some_or_none content h table extent of true holds = ap Some holds
some_or_none content h table extent of false holds = refl

holds_by : {U : Type 0} (content : U → Content) (h : History) (kept : Kept U) (table extent : ℕ) (of : U) (current : Option (Stock U))
    → Agrees content h kept → (told_at kept table extent).current ≡ current
    → option_map (λ (stock : Stock U). stock.unit) current ≡ Some of → content of ≡ content_at h table extent (content of).scn
holds_by content h kept table extent of None agrees is found = cc
holds_by content h kept table extent of (Some stock) agrees is found =
    let same : stock.unit ≡ of = cc in
    subst (λ u. content u ≡ content_at h table extent (content u).scn) same (agrees.stock table extent stock is).holds

-- the current unit, unless it is newer
pub lent-by : {U : Type 0} (content : U → Content) (h : History) (kept : Kept U) (table extent most : ℕ) (of : U)
    → Agrees content h kept → unit_in kept table extent ≡ Some of
    → ◌≡◌ {A = Option Content} (if nat_le (content of).scn most then Some (content of) else None)
    (option_map (content_at h table extent) (not_newer most (unit h table extent)))
lent-by content h kept table extent most of agrees is =
    some_or_none content h table extent of (nat_le (content of).scn most)
    (holds_by content h kept table extent of (told_at kept table extent).current agrees refl is)
    ∙ ap (λ (o : Option ℕ). option_map (content_at h table extent) (not_newer most o)) (sym (unit-by content h kept table extent of agrees is))

-- ---- what a view is lent

-- an SCN is lent
pub record IsLent (o : Option ℕ) (most : ℕ) : Type 0 where
  pub at : ℕ
  pub is : o ≡ Some at
  pub lent : not_newer most o ≡ Some at

lent_if : (n most : ℕ) (b : Bool) (x : Content) (f : ℕ → Content) → nat_le n most ≡ b → Some x ≡ option_map f (if b then Some n else None)
    → IsLent (Some n) most
lent_if n most true x f e is = record { at = n; is = refl; lent = ap (λ (b : Bool). if b then Some n else None) e }
lent_if n most false x f e is = cc

pub lent-some : (o : Option ℕ) (most : ℕ) (x : Content) (f : ℕ → Content) → Some x ≡ option_map f (not_newer most o) → IsLent o most
lent-some None most x f is = cc
lent-some (Some n) most x f is = lent_if n most (nat_le n most) x f refl is

pub lent-none : (o : Option ℕ) (f : ℕ → Content) → None ≡ option_map f o → o ≡ None
lent-none None f is = refl
lent-none (Some n) f is = cc

-- a unit is lent, and beside it the stale rows are read
pub record ReadsStale (h : History) (view : View) (extent : ℕ) (cursor : Cursor) : Type 0 where
  pub at : ℕ
  pub is : unit h cursor.table extent ≡ Some at
  pub rows : stale_in h cursor.table extent cursor.scn at ≡ read_in h view extent

-- no unit is lent, and all rows are read
pub record ReadsAll (h : History) (view : View) (extent : ℕ) : Type 0 where
  pub rows : committed_in h view extent ≡ read_in h view extent
  pub long : rows_in view extent ≡ length (read_in h view extent)

module _ (h : History) (view : View) (extent : ℕ) (cursor : Cursor) (has : HasView view extent cursor) where
  -- the view is lent what its cursor is
  pub lent-content : option_map (content_at h cursor.table extent) (not_newer cursor.scn (unit h cursor.table extent)) ≡ serving_content h view extent
  lent-content = rw (has.table, has.scn) refl

  stale_beside : IsLent (unit h cursor.table extent) cursor.scn → ReadsStale h view extent cursor
  stale_beside l =
      let one : not_newer view.scn (unit h view.table extent) ≡ Some l.at = rw (has.table, has.scn) at l.lent in
      record { at = l.at; is = l.is; rows = rw (has.table, has.scn, one) refl }

  pub reads_stale : (x : Content) → Some x ≡ option_map (content_at h cursor.table extent) (not_newer cursor.scn (unit h cursor.table extent))
      → ReadsStale h view extent cursor
  reads_stale x lent = stale_beside (lent-some _ _ x _ lent)

  pub reads_all : None ≡ option_map (content_at h cursor.table extent) (not_newer cursor.scn (unit h cursor.table extent)) → ReadsAll h view extent
  reads_all lent =
      let none : not_newer view.scn (unit h view.table extent) ≡ None = rw (has.table, has.scn) at (lent-none _ _ lent) in
      let rows : committed_in h view extent ≡ read_in h view extent = rw none refl in
      record { rows = rows; long = sym (length-map _ _ ∙ length-range_with_len _ _) ∙ ap length rows }

-- rows that were read are what the view shows, once they are lengthened by the first of the table's defaults
pub read-shown : (h : History) (view : View) (columns : ℕ) (rows : List (ℕ × Option Row)) → HasColumns h view → columns ≡ length view.columns
    → all_widened (take columns (defaults_of (table_at h view.table))) rows ≡ shown_all view rows
read-shown h view columns rows has long =
    ap (λ (defaults : List Value). all_widened defaults rows)
    (ap (λ (n : ℕ). take n (defaults_of (table_at h view.table))) long
    ∙ (ap (λ (t : Option TableInfo). take (length view.columns) (defaults_of t)) has.is ∙ sym has.defaults))

-- the view of a cursor that has this extent has the first columns of its table
pub store_columns : {U : Type 0} {content : U → Content} {limits : Limits} {history : Stored} {caches : Caches U} (who cursor extent : ℕ)
    → Holds content limits history caches → extent < (cursor_view history.entries who cursor).extents
    → HasColumns history.entries (cursor_view history.entries who cursor)
store_columns {U} {content} {limits} {history} {caches} who cursor extent holds within =
    view-columns limits history.entries who cursor holds.legal (is_open_at history.entries who cursor extent within)

-- so its table exists
pub cursor_exists : (h : History) (view : View) (extent : ℕ) (cursor : Cursor) → HasView view extent cursor → HasColumns h view → Exists h cursor.table
cursor_exists h view extent cursor has columns = record { made = columns.made; is = ap (table_at h) has.table ∙ columns.is }

-- and what was read for it is what its view fetches, once it is lengthened by the defaults of as many columns as the cursor has
pub fetched-wide : (h : History) (view : View) (extent : ℕ) (cursor : Cursor) (defaults : List Value) (read : List (ℕ × Option Row))
    → HasView view extent cursor → HasColumns h view → defaults ≡ take cursor.columns (defaults_of (table_at h cursor.table))
    → read ≡ read_in h view extent → all_widened defaults read ≡ fetched_in h view extent
fetched-wide h view extent cursor defaults read has columns defaults_are read_is =
    ap (λ (rows : List (ℕ × Option Row)). all_widened defaults rows) read_is
    ∙ (ap (λ (d : List Value). all_widened d (read_in h view extent))
    (defaults_are ∙ ap (λ (table : ℕ). take cursor.columns (defaults_of (table_at h table))) has.table)
    ∙ read-shown h view cursor.columns (read_in h view extent) columns has.columns)

-- a unit of as many columns is lent as it is
pub lent-wide : (h : History) (table extent columns : ℕ) (o : Option ℕ)
    → content_as_wide columns (option_map (content_at h table extent) o) ≡ option_map (content_at h table extent) (as_wide h table columns o)
lent-wide h table extent columns None = refl
lent-wide h table extent columns (Some n) = by (columns_at h table n == columns)
  where
    by : (b : Bool) → (if b then Some (content_at h table extent n) else None) ≡ option_map (content_at h table extent) (if b then Some n else None)
    by true = refl
    by false = refl

-- the rows that are stale beside a unit, as they are kept
pub record KeepsStale (h : History) (blocks : AllVersions) (table extent scn at : ℕ) (rids : List ℕ) : Type 0 where
  pub rows : rows_among blocks table rids scn ≡ stale_in h table extent scn at
  pub long : length rids ≡ length (stale_in h table extent scn at)

pub keeps_stale : {U : Type 0} {content : U → Content} {limits : Limits} {history : Stored} {caches : Caches U} {rids : List ℕ} (table extent scn at : ℕ)
    → Holds content limits history caches → horizon history.entries ≤ scn → unit history.entries table extent ≡ Some at → rids ≡ stale_told caches.kept table extent scn
    → KeepsStale history.entries caches.blocks table extent scn at rids
keeps_stale {U} {content} {limits} {history} {caches} {rids} table extent scn at holds old is told =
    let h = history.entries in
    let stale_is = told ∙ stale-of content h caches.kept table extent at scn holds.units (per_at-some limits h table holds.legal) is in
    record {
      rows = rows_among_kept h caches.blocks holds.rows table rids scn old ∙ ap (map (λ rid. (rid, rows h table scn rid))) stale_is;
      long = ap length stale_is ∙ sym (length-map _ _);
    }
