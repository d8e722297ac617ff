-- What later entries leave of a table that exists, and what may be asked of its rows.
use Rattle.std.proofs.Common.{◌≡◌, ℕ, zero, suc, ◌+◌, ◌==◌, ◌≤◌, Bool, true, false, if◌then◌else◌, IsTrue, List, [], ◌∷◌, ◌++◌, length, take, All, Option, Some, None, refl, sym, ap, ◌∙◌, subst, append-nil, length-append, arith}
use Rattle.std.specs.List.{AllByRecursion}
use Rattle.std.specs.Option.{option_map, option_or}
use Rattle.std.specs.Prelude.{slice_get}
use Rattle.std.proofs.lemmas.Bool.Decides.{nat_tests}
use Rattle.std.proofs.lemmas.List.{take_all}
use Rattle.std.proofs.lemmas.List.Elements.{All-cons, All-head, All-nil, All-tail}
use Rattle.im_core.specs.Answers.{MayPut}
use Rattle.im_values.specs.declared.content.Content.{Content as Value}
use Rattle.im_values.specs.declared.schema.Column.{Column}
use Rattle.im_values.specs.Fits.{fits}
use Rattle.im_values.specs.Widened.{widened}
use Rattle.im_values.proofs.WideLaws.{widened-fits}
use Rattle.im_history.specs.declared.change.Change.{Change}
use Rattle.im_history.specs.declared.limits.Limits.{Limits}
use Rattle.im_history.specs.declared.look.Look.{Look}
use Rattle.im_history.specs.declared.refused.Why.{Why}
use Rattle.im_history.specs.declared.refused.Why.TheVariants.{Altered}
use Rattle.im_history.specs.declared.look.TableInfo.{TableInfo}
use Rattle.im_history.specs.declared.view.View.{View}
use Rattle.im_history.specs.Commits.{scn, moves_clock}
use Rattle.im_history.specs.Grid.{per_extent}
use Rattle.im_history.specs.History.{History}
use Rattle.im_history.specs.Legal.{Exists, IsLegal}
use Rattle.im_history.specs.Refusals.{altered}
use Rattle.im_history.specs.Rows.{Row, own_changes}
use Rattle.im_history.specs.Tables.{last_added, table_among, table_at, tables}
use Rattle.im_history.specs.Units.{columns_of}
use Rattle.im_history.specs.Views.{defaults_of, look_at, per_at, schema_of, shows_own, view_at}
use Rattle.im_history.proofs.FitLaws.{pending-fits, row_starts, shown-fits}
use Rattle.im_history.proofs.Laws.{scn-push}
use Rattle.im_history.proofs.RowLaws.{each_longer}
use Rattle.im_history.proofs.ShapeLaws.{defaults-fit}
use Rattle.im_history.proofs.TableLaws.{table-longer}
use Rattle.im_history.proofs.ViewLaws.{HasColumns}
use Rattle.im_names.specs.Fitting.{DefaultsFit, OfTable, QueryServes, RowsServe, columns_at}
use Rattle.im_scan.specs.Parts.{MayAsk, MayAskShown}
use Rattle.im_scan.proofs.ForCallers.{MayAskOf}
use Rattle.im_statements.specs.Statements.{seen_columns}
use Rattle.im_syntax.specs.declared.bound.Bound.{Bound}
use Rattle.im_syntax.specs.BoundFits.{BoundFits}

-- ---- the table of a number that names were resolved to

pub record MadeOf (h : History) (table : ℕ) (columns : List Column) : Type 0 where
  pub made : TableInfo
  pub is : table_at h table ≡ Some made
  pub schema : made.schema ≡ columns

pub made_of : (h : History) (table : ℕ) (columns : List Column) → columns_at (tables h) table ≡ Some columns → MadeOf h table columns
made_of h zero columns e = absurd cc
made_of h (suc before) columns e = by (slice_get (tables h) before) refl e
  where
    by : (o : Option TableInfo) → slice_get (tables h) before ≡ o → option_map (λ info. info.schema) o ≡ Some columns → MadeOf h (suc before) columns
    by None is e = absurd cc
    by (Some made) is e = record { made = made; is = is; schema = inj e }
      where
        inj : {a b : List Column} → Some a ≡ Some b → a ≡ b
        inj e = cc

pub exists-of : (h : History) (table : ℕ) (P : List Column → Type 0) → OfTable (tables h) table P → Exists h table
exists-of h table P of = let m = made_of h table of.columns of.are_of in record { made = m.made; is = m.is }

-- a view of it that is opened has these columns
pub opened-columns : (h : History) (who table : ℕ) (asked : Option ℕ) (columns : List Column) → columns_at (tables h) table ≡ Some columns
    → columns ≡ (view_at h who table asked).columns
opened-columns h who table asked columns e = let m = made_of h table columns e in sym (ap schema_of m.is ∙ m.schema)

-- what a look shows of its columns is so
pub seen-columns : (h : History) (who table n : ℕ) (look : Look) → look ≡ look_at h who → n ≡ columns_of (table_among look.tables table)
    → n ≡ seen_columns h table
seen-columns h who table n look is seen = seen ∙ ap (λ (l : Look). columns_of (table_among l.tables table)) is

-- ---- causes, the first of which applies

pub none-both : (first second : Option Why) → option_or first second ≡ None → (first ≡ None) × (second ≡ None)
none-both None second is = (refl, is)
none-both (Some cause) second is = absurd cc

pub both-none : (first second : Option Why) → first ≡ None → second ≡ None → option_or first second ≡ None
both-none first second one other = ap (λ (o : Option Why). option_or o second) one ∙ other

-- whom nothing refuses for other columns saw as many as there are
unaltered : (h : History) (table n : ℕ) → altered h table n ≡ None → columns_of (table_at h table) ≡ n
unaltered h table n none = by (columns_of (table_at h table) == n) refl
  where
    by : (b : Bool) → (columns_of (table_at h table) == n) ≡ b → columns_of (table_at h table) ≡ n
    by true is = grind (arith, nat_tests, is)
    by false is = let no : Some (Altered (last_added h table)) ≡ None = rw is at none in absurd cc

-- the defaults of each table of a look fit its columns
pub defaults-look : (limits : Limits) (h : History) (who : ℕ) (look : Look) → IsLegal limits h → look ≡ look_at h who → DefaultsFit look.tables
defaults-look limits h who look legal is =
    subst (λ (l : Look). DefaultsFit l.tables) (sym is) (record { each = λ number table found. defaults-fit limits h number table legal found })

-- ---- later it is there, with the same columns where it has as many

no_more : (more : List Column) → length more ≡ 0 → more ≡ []
no_more [] is = refl
no_more (column ∷ columns) is = absurd (omega (arith, is))

pub columns-same : (h more : History) (table : ℕ) (columns : List Column) → columns_at (tables h) table ≡ Some columns
    → altered (h ++ more) table (seen_columns h table) ≡ None → columns_at (tables (h ++ more)) table ≡ Some columns
columns-same h more table columns is same =
    let was = made_of h table columns is in
    let now = table-longer h more table (record { made = was.made; is = was.is }) in
    let wide : length now.by.info.schema ≡ length was.made.schema =
    ap (λ (t : Option TableInfo). columns_of t) (sym now.by.is)
    ∙ (unaltered (h ++ more) table (seen_columns h table) same ∙ ap (λ (t : Option TableInfo). columns_of t) was.is) in
    let sum : length now.by.info.schema ≡ length was.made.schema + length now.columns =
    ap length now.by.schema ∙ length-append was.made.schema now.columns in
    let none : now.columns ≡ [] = no_more now.columns (omega (arith, wide, sum)) in
    columns_at-among (tables (h ++ more)) table now.by.info now.by.is
    ∙ ap Some (now.by.schema ∙ (ap (λ (l : List Column). was.made.schema ++ l) none ∙ (append-nil was.made.schema ∙ was.schema)))
  where
    columns_at-among : (ts : List TableInfo) (table : ℕ) (made : TableInfo) → table_among ts table ≡ Some made → columns_at ts table ≡ Some made.schema
    columns_at-among ts zero made is = absurd cc
    columns_at-among ts (suc before) made is = ap (option_map (λ info. info.schema)) is

-- what fits a table fits it then
pub of_table-same : (h more : History) (table : ℕ) (P : List Column → Type 0) → OfTable (tables h) table P
    → altered (h ++ more) table (seen_columns h table) ≡ None → OfTable (tables (h ++ more)) table P
of_table-same h more table P of same =
    record { columns = of.columns; are_of = columns-same h more table of.columns of.are_of same; is = of.is }

pub exists-longer : (h more : History) (table : ℕ) → Exists h table → Exists (h ++ more) table
exists-longer h more table exists = let now = table-longer h more table exists in record { made = now.by.info; is = now.by.is }

pub per-longer : (h more : History) (table per : ℕ) → Exists h table → per ≡ per_at h table → per ≡ per_at (h ++ more) table
per-longer h more table per exists is =
    let now = table-longer h more table exists in
    is ∙ (rw (now.by.is, exists.is) (ap per_extent (sym now.by.shape)))

pub scn-longer : (h more : History) (n : ℕ) → n ≤ scn h → n ≤ scn (h ++ more)
scn-longer h more n below =
    each_longer (λ (log : History). n ≤ scn log)
    (λ log entry so_far. let now = scn-push log entry in
    grows (scn log) (scn (log ++ entry ∷ [])) (if moves_clock entry.what then 1 else 0) so_far now) h more below
  where
    grows : (before now step : ℕ) → n ≤ before → now ≡ before + step → n ≤ now
    grows before now step a b = omega (arith, a, b)

-- ---- what may be asked of its rows

-- of a row that fits the first columns a query may be asked once it is lengthened by defaults that fit them all
starts-asks : (bound : Bound) (columns : List Column) (defaults : List Value) → QueryServes bound columns → fits defaults columns ≡ true
    → (row : Option Row) → IsTrue (row_starts columns row) → MayAsk bound (option_map (widened defaults) row)
starts-asks bound columns defaults serves all None starts values is = absurd cc
starts-asks bound columns defaults serves all (Some row) starts values is =
    let same : widened defaults row ≡ values = cc in
    subst (λ (v : Row). BoundFits v bound) same (serves.rows (widened defaults row) (widened-fits defaults row columns all starts))

-- a query that may be asked by the columns of a view may be asked of each row of its table that was committed by its SCN, as it shows them
pub asks-of : (limits : Limits) (h : History) (view : View) (bound : Bound) → IsLegal limits h → HasColumns h view → QueryServes bound view.columns
    → MayAskOf bound h view
asks-of limits h view bound legal has serves = record {
  each = λ n rid within values found. serves.rows values (shown-fits limits h view n rid values legal has within found);
}

-- and of what a session has pending, as a view that is opened shows it
pub asks-own : (limits : Limits) (h : History) (who table : ℕ) (asked : Option ℕ) (bound : Bound) → IsLegal limits h
    → OfTable (tables h) table (QueryServes bound)
    → AllByRecursion (λ change. MayAskShown bound (view_at h who table asked) change.row) (shows_own h who table asked)
asks-own limits h who table (Some asked) bound legal of = tt
asks-own limits h who table None bound legal of = each (own_changes h who table) (pending-fits limits h who table m.made legal m.is)
  where
    m : MadeOf h table of.columns
    m = made_of h table of.columns of.are_of

    defaults : fits (defaults_of (table_at h table)) of.columns ≡ true
    defaults =
        ap (λ (t : Option TableInfo). fits (defaults_of t) of.columns) m.is
        ∙ (ap (fits m.made.defaults) (sym m.schema) ∙ defaults-fit limits h table m.made legal m.is)

    each : (changes : List Change) → All (λ change. IsTrue (row_starts m.made.schema change.row)) changes
        → AllByRecursion (λ change. MayAskShown bound (view_at h who table None) change.row) changes
    each [] all = tt
    each (change ∷ changes) all = (
      starts-asks bound of.columns (defaults_of (table_at h table)) of.is defaults change.row
          (subst (λ (columns : List Column). IsTrue (row_starts columns change.row)) m.schema
          (All-head (λ (c : Change). IsTrue (row_starts m.made.schema c.row)) change changes all)),
      each changes (All-tail (λ (c : Change). IsTrue (row_starts m.made.schema c.row)) change changes all),
    )

-- ---- rows that are inserted

pub may-put : (h : History) (table columns : ℕ) (rows : List Row) → columns ≡ seen_columns h table → OfTable (tables h) table (RowsServe rows)
    → MayPut h (record { table = table; columns = columns }) rows
may-put h table columns rows seen of = record {
  exists = record { made = m.made; is = m.is };
  seen = omega (arith, wide);
  some = of.is.some;
  fit = all rows of.is.each;
}
  where
    m : MadeOf h table of.columns
    m = made_of h table of.columns of.are_of

    wide : columns ≡ length m.made.schema
    wide = seen ∙ ap (λ (t : Option TableInfo). columns_of t) m.is

    whole : take columns m.made.schema ≡ of.columns
    whole = take_all columns m.made.schema (omega (arith, wide)) ∙ m.schema

    all : (rs : List Row) → AllByRecursion (λ row. fits row of.columns ≡ true) rs
        → All (λ row. IsTrue (fits row (take columns m.made.schema))) rs
    all [] each = All-nil _
    all (row ∷ rs) each = All-cons (λ (r : Row). IsTrue (fits r (take columns m.made.schema))) row rs
        (ap (fits row) whole ∙ each.0) (all rs each.1)
