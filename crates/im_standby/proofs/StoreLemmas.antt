-- What a standby shows of the store whose members it applied.
use Rattle.std.proofs.Common.{◌≡◌, ℕ, ◌≤◌, List, [], ◌∷◌, ◌++◌, length, take, map, Option, Some, None, refl, sym, ap, ap₂, ◌∙◌, arith, length-append, le_refl}
use Rattle.std.specs.List.{fold, flat_map}
use Rattle.std.specs.Option.{option_map}
use Rattle.std.proofs.Math.Seq.{take-append_seam}
use Rattle.std.proofs.lemmas.List.{length-map, map-append, take_all}
use Rattle.im_feed.specs.Lawful.{IsBeginning}
use Rattle.im_history.specs.declared.change.Change.{Change}
use Rattle.im_history.specs.declared.entry.Entry.{Entry}
use Rattle.im_history.specs.declared.look.TableInfo.{TableInfo}
use Rattle.im_history.specs.declared.member.Member.{Member}
use Rattle.im_history.specs.Columns.{columns_of, defaults_at, schema_at}
use Rattle.im_history.specs.Commits.{changes_of, commits, members, scn}
use Rattle.im_history.specs.Fetched.{all_widened}
use Rattle.im_history.specs.History.{History}
use Rattle.im_history.specs.Legal.{Exists}
use Rattle.im_history.specs.Rows.{Row, changes_until, row_after, rows}
use Rattle.im_history.specs.Tables.{given_by, table_among, table_at, tables}
use Rattle.im_history.specs.Views.{defaults_of, schema_of}
use Rattle.im_history.proofs.ColumnLaws.{columns_at-now, defaults-long, defaults_at-push, schema_at-push}
use Rattle.im_history.proofs.Laws.{length-members, scn-push}
use Rattle.im_history.proofs.RowLaws.{each_longer}
use Rattle.im_history.proofs.TableLaws.{Exists-push, table-longer}
use Rattle.im_standby.specs.Members.{all_changes_of, given_of, row_of, tables_of}
use Rattle.im_standby.specs.Standing.{Standing}
use Rattle.im_standby.specs.Store.{GivesItsNumbers, HasItsColumns, HasItsRows, HasItsTables, IsOfStore, IsReached, ShowsItsRows, WasTable, bare}
use Rattle.im_standby.proofs.LawfulLemmas.{moment_of}
use Rattle.im_standby.proofs.StandingLemmas.{flat_map-map, map_same}
use Rattle.im_standby.proofs.TableLemmas.{bare-among, tables_of-members}

-- ---- rows

-- the changes of the first commits are those of the first members
first_changes : (history : History) (first : List Member) → IsBeginning first (members history) → changes_until history (length first) ≡ all_changes_of first
unfolding commits
first_changes history first begins =
    let parts : commits history ≡ map changes_of first ++ map changes_of begins.rest =
    ap (map changes_of) begins.is ∙ map-append changes_of first begins.rest in
    let these : take (length first) (commits history) ≡ map changes_of first =
    ap (take (length first)) parts
    ∙ (ap (λ (n : ℕ). take n (map changes_of first ++ map changes_of begins.rest)) (sym (length-map first changes_of))
    ∙ take-append_seam (map changes_of first) (map changes_of begins.rest)) in
    ap (λ (list : List (List Change)). flat_map (λ changes. changes) list) these ∙ flat_map-map first

-- at its SCN
changes_at : (standing : Standing) (history : History) (first : List Member) → IsOfStore standing history first →
    changes_until history standing.scn ≡ all_changes_of first
changes_at standing history first of_store =
    ap (changes_until history) of_store.is_of.scn ∙ first_changes history first of_store.begins

pub has-its-rows : HasItsRows
unfolding rows row_of
has-its-rows standing history first of_store table rid = ap (fold (row_after table rid) None) (sym (changes_at standing history first of_store))

pub gives-its-numbers : GivesItsNumbers
unfolding given_of
gives-its-numbers standing history first of_store table = ap (given_by table 0) (sym (changes_at standing history first of_store))

-- ---- the SCN

pub is-reached : IsReached
is-reached standing history first of_store =
    let all = length-members history in
    let parts = ap length of_store.begins.is ∙ length-append first of_store.begins.rest in
    let here = of_store.is_of.scn in
    omega (arith, all, parts, here)

-- ---- tables

pub has-its-tables : HasItsTables
has-its-tables standing history first of_store =
    let moment = moment_of history first of_store.begins in
    record {
      before = moment.before;
      after = moment.after;
      is = moment.is;
      scn_is = sym (length-members moment.before) ∙ (ap length moment.members_are ∙ sym of_store.is_of.scn);
      tables_are = of_store.is_of.tables ∙ (ap tables_of (sym moment.members_are) ∙ tables_of-members moment.before);
    }

-- ---- columns

-- a table of which this is what is outside the column store
record IsBareOf (found : Option TableInfo) (info : TableInfo) : Type 0 where
  table : TableInfo
  is : found ≡ Some table
  same : info ≡ bare table

bare_of : (found : Option TableInfo) (info : TableInfo) → option_map bare found ≡ Some info → IsBareOf found info
bare_of None info is = absurd (cc is)
bare_of (Some table) info is = record { table = table; is = refl; same = the_same _ _ is }
  where
    the_same : (a b : TableInfo) → Some a ≡ Some b → b ≡ a
    the_same a b same = cc

-- a table keeps the columns that it had at an SCN that was reached, and their defaults
record Keeps (before log : History) (table at : ℕ) : Type 0 where
  exists : Exists log table
  reached : at ≤ scn log
  schema : schema_at log table at ≡ schema_at before table at
  defaults : defaults_at log table at ≡ defaults_at before table at

Keeps-push : (before log : History) (entry : Entry) (table at : ℕ) → Keeps before log table at → Keeps before (log ++ entry ∷ []) table at
Keeps-push before log entry table at keeps = record {
  exists = Exists-push log entry table keeps.exists;
  reached = let moved = scn-push log entry in let so_far = keeps.reached in omega (arith, moved, so_far);
  schema = schema_at-push log entry table at keeps.exists keeps.reached ∙ keeps.schema;
  defaults = defaults_at-push log entry table at keeps.exists keeps.reached ∙ keeps.defaults;
}

keeps_after : (before after : History) (table : ℕ) → Exists before table → Keeps before (before ++ after) table (scn before)
keeps_after before after table exists =
    each_longer (λ (log : History). Keeps before log table (scn before)) (λ log entry keeps. Keeps-push before log entry table (scn before) keeps)
    before after (record { exists = exists; reached = le_refl (scn before); schema = refl; defaults = refl })

-- at the present SCN they are those that it has
schema_at-now : (h : History) (table : ℕ) (found : TableInfo) → table_at h table ≡ Some found → schema_at h table (scn h) ≡ found.schema
schema_at-now h table found is =
    ap (λ (n : ℕ). take n (schema_of (table_at h table))) (columns_at-now h table (scn h) (le_refl (scn h)))
    ∙ (take_all (columns_of (table_at h table)) (schema_of (table_at h table)) (le_refl _) ∙ ap schema_of is)

defaults_at-now : (h : History) (table : ℕ) (found : TableInfo) → table_at h table ≡ Some found → defaults_at h table (scn h) ≡ found.defaults
defaults_at-now h table found is =
    let long = defaults-long h table found is in
    let wide = ap (λ (t : Option TableInfo). length (defaults_of t)) is in
    let columns = ap columns_of is in
    ap (λ (n : ℕ). take n (defaults_of (table_at h table))) (columns_at-now h table (scn h) (le_refl (scn h)))
    ∙ (take_all (columns_of (table_at h table)) (defaults_of (table_at h table)) (omega (arith, long, wide, columns)) ∙ ap defaults_of is)

was_table : (history before after : History) (at table : ℕ) (info : TableInfo) → history ≡ before ++ after → scn before ≡ at
    → IsBareOf (table_at before table) info → WasTable history at table info
was_table history before after at table info is there found =
    let exists : Exists before table = record { made = found.table; is = found.is } in
    let now = table-longer before after table exists in
    let keeps = keeps_after before after table exists in
    record {
      now = now.by.info;
      is = ap (λ (h : History). table_at h table) is ∙ now.by.is;
      shape = ap (λ (t : TableInfo). t.shape) found.same ∙ sym now.by.shape;
      schema =
          ap (λ (t : TableInfo). t.schema) found.same
          ∙ (sym (schema_at-now before table found.table found.is)
          ∙ (sym keeps.schema ∙ (ap (λ (h : History). schema_at h table (scn before)) (sym is) ∙ ap (schema_at history table) there)));
      defaults =
          ap (λ (t : TableInfo). t.defaults) found.same
          ∙ (sym (defaults_at-now before table found.table found.is)
          ∙ (sym keeps.defaults ∙ (ap (λ (h : History). defaults_at h table (scn before)) (sym is) ∙ ap (defaults_at history table) there)));
    }

pub has-its-columns : HasItsColumns
has-its-columns standing history first of_store table info is =
    let stood = has-its-tables standing history first of_store in
    let there : option_map bare (table_at stood.before table) ≡ Some info =
    sym (bare-among (tables stood.before) table) ∙ (ap (λ (ts : List TableInfo). table_among ts table) (sym stood.tables_are) ∙ is) in
    was_table history stood.before stood.after standing.scn table info stood.is stood.scn_is (bare_of _ info there)

-- ---- rows as they are shown

pub shows-its-rows : ShowsItsRows
shows-its-rows standing history first of_store table info is rids =
    let was = has-its-columns standing history first of_store table info is in
    let defaults : defaults_of (table_among (tables_of first) table) ≡ defaults_at history table standing.scn =
    ap (λ (ts : List TableInfo). defaults_of (table_among ts table)) (sym of_store.is_of.tables) ∙ (ap defaults_of is ∙ was.defaults) in
    ap₂ all_widened defaults
    (map_same (λ rid. (rid, row_of first table rid)) (λ rid. (rid, rows history table standing.scn rid))
    (λ rid. ap (λ (row : Option Row). (rid, row)) (has-its-rows standing history first of_store table rid)) rids)
