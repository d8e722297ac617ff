-- A table that exists keeps its shape and its columns, and gets others behind them.
use Rattle.std.proofs.Common.{◌≡◌, ℕ, zero, suc, ◌+◌, ◌==◌, ◌≤◌, true, false, if◌then◌else◌, List, [], ◌∷◌, ◌++◌, length, Option, Some, None, is_some, slice_get, refl, sym, ap, ◌∙◌, ⊎_elim, append-nil, append_assoc, length-append, arith}
use Rattle.std.proofs.lemmas.Bool.{false≢true}
use Rattle.std.proofs.lemmas.Bool.Decides.{eqb_tells}
use Rattle.im_values.specs.declared.content.Content.{Content as Value}
use Rattle.im_values.specs.declared.priority.Priority.{Priority}
use Rattle.im_values.specs.declared.schema.Column.{Column}
use Rattle.im_history.specs.declared.entry.Entry.{Entry}
use Rattle.im_history.specs.declared.entry.What.{What}
use Rattle.im_history.specs.declared.entry.What.TheVariants.{Create, Add, Memory}
use Rattle.im_history.specs.declared.look.TableInfo.{TableInfo}
use Rattle.im_history.specs.Columns.{columns_of}
use Rattle.im_history.specs.Grid.{per_extent}
use Rattle.im_history.specs.History.{History}
use Rattle.im_history.specs.Legal.{Exists}
use Rattle.im_history.specs.Tables.{created, lengthened, longer_by, new_table, table_among, table_at, tables, with_column, with_memory}
use Rattle.im_history.specs.Views.{per_at}
use Rattle.im_history.proofs.Laws.{tables-push}
use Rattle.im_history.proofs.RowLaws.{each_longer}

-- a table stands there with the same shape, and with these columns and defaults behind those that it had
pub record GrowsBy (made : TableInfo) (columns : List Column) (values : List Value) (found : Option TableInfo) : Type 0 where
  pub info : TableInfo
  pub is : found ≡ Some info
  pub schema : info.schema ≡ made.schema ++ columns
  pub defaults : info.defaults ≡ made.defaults ++ values
  pub shape : info.shape ≡ made.shape

stays : (made : TableInfo) (found : Option TableInfo) → found ≡ Some made → GrowsBy made [] [] found
stays made found is =
    record { info = made; is = is; schema = sym (append-nil made.schema); defaults = sym (append-nil made.defaults); shape = refl }

found_none : {X : Type 0} (x : X) → None ≡ Some x → ⊥
found_none x is = false≢true (ap is_some is)

stays-append : (ts more : List TableInfo) (place : ℕ) (made : TableInfo) → slice_get ts place ≡ Some made
    → GrowsBy made [] [] (slice_get (ts ++ more) place)
stays-append [] more place made is = absurd (found_none made is)
stays-append (t ∷ ts) more zero made is = stays made (Some t) is
stays-append (t ∷ ts) more (suc place) made is = stays-append ts more place made is

stays-memory : (at : ℕ) (priority : Option Priority) (ts : List TableInfo) (place : ℕ) (made : TableInfo) → slice_get ts place ≡ Some made
    → GrowsBy made [] [] (slice_get (with_memory at priority ts) place)
stays-memory at priority [] place made is = absurd (found_none made is)
stays-memory zero priority (t ∷ ts) zero made is =
    let same : t ≡ made = cc in
    record {
      info = record t { memory = priority };
      is = refl;
      schema = ap (λ (i : TableInfo). i.schema) same ∙ sym (append-nil made.schema);
      defaults = ap (λ (i : TableInfo). i.defaults) same ∙ sym (append-nil made.defaults);
      shape = ap (λ (i : TableInfo). i.shape) same;
    }
stays-memory zero priority (t ∷ ts) (suc place) made is = stays made (slice_get ts place) is
stays-memory (suc at) priority (t ∷ ts) zero made is = stays made (Some t) is
stays-memory (suc at) priority (t ∷ ts) (suc place) made is = stays-memory at priority ts place made is

-- ---- a table gets a column

grows-there : (ts : List TableInfo) (column : Column) (default : Value) (place : ℕ) (made : TableInfo) → slice_get ts place ≡ Some made
    → slice_get (with_column place column default ts) place ≡ Some (longer_by column default made)
grows-there [] column default place made is = absurd (found_none made is)
grows-there (t ∷ ts) column default zero made is = let same : t ≡ made = cc in ap (λ (i : TableInfo). Some (longer_by column default i)) same
grows-there (t ∷ ts) column default (suc place) made is = grows-there ts column default place made is

stays-elsewhere : (ts : List TableInfo) (column : Column) (default : Value) (at place : ℕ) → (at ≡ place → ⊥)
    → slice_get (with_column at column default ts) place ≡ slice_get ts place
stays-elsewhere [] column default at place apart = refl
stays-elsewhere (t ∷ ts) column default zero zero apart = absurd (apart refl)
stays-elsewhere (t ∷ ts) column default zero (suc place) apart = refl
stays-elsewhere (t ∷ ts) column default (suc at) zero apart = refl
stays-elsewhere (t ∷ ts) column default (suc at) (suc place) apart =
    stays-elsewhere ts column default at place (λ same. apart (ap suc same))

table-there : (ts : List TableInfo) (column : Column) (default : Value) (table : ℕ) (made : TableInfo) → table_among ts table ≡ Some made
    → table_among (lengthened table column default ts) table ≡ Some (longer_by column default made)
table-there ts column default zero made is = absurd (found_none made is)
table-there ts column default (suc before) made is = grows-there ts column default before made is

table-elsewhere : (ts : List TableInfo) (column : Column) (default : Value) (other table : ℕ) → (other ≡ table → ⊥)
    → table_among (lengthened other column default ts) table ≡ table_among ts table
table-elsewhere ts column default zero table apart = refl
table-elsewhere ts column default (suc at) zero apart = refl
table-elsewhere ts column default (suc at) (suc before) apart = stays-elsewhere ts column default at before (λ same. apart (ap suc same))

-- the columns that an entry gives a table
abbrev pub new_columns : ℕ → What → List Column
new_columns table (Add other column default) = if other == table then column ∷ [] else []
new_columns table what = []

-- and their defaults
abbrev pub new_defaults : ℕ → What → List Value
new_defaults table (Add other column default) = if other == table then default ∷ [] else []
new_defaults table what = []

grows-lengthened : (ts : List TableInfo) (other : ℕ) (column : Column) (default : Value) (table : ℕ) (made : TableInfo) → table_among ts table ≡ Some made
    → GrowsBy made (if other == table then column ∷ [] else []) (if other == table then default ∷ [] else [])
    (table_among (lengthened other column default ts) table)
grows-lengthened ts other column default table made is = ⊎_elim there elsewhere (eqb_tells other table)
  where
    Grows : Type 0
    Grows =
        GrowsBy made (if other == table then column ∷ [] else []) (if other == table then default ∷ [] else [])
        (table_among (lengthened other column default ts) table)

    there : ((other == table) ≡ true) × (other ≡ table) → Grows
    there same = rw (same.0, same.1) (record {
      info = longer_by column default made;
      is = table-there ts column default table made is;
      schema = refl;
      defaults = refl;
      shape = refl;
    })

    elsewhere : ((other == table) ≡ false) × (other ≡ table → ⊥) → Grows
    elsewhere apart = rw apart.0 (stays made _ (table-elsewhere ts column default other table apart.1 ∙ is))

grows-created : (ts : List TableInfo) (what : What) (table : ℕ) (made : TableInfo) → table_among ts table ≡ Some made
    → GrowsBy made (new_columns table what) (new_defaults table what) (table_among (created ts what) table)
grows-created ts what zero made is = absurd (found_none made is)
grows-created ts (Create name schema grid) (suc before) made is = stays-append ts (new_table name schema grid ∷ []) before made is
grows-created ts (Add other column default) (suc before) made is = grows-lengthened ts other column default (suc before) made is
grows-created ts (Memory zero priority) (suc before) made is = stays made (slice_get ts before) is
grows-created ts (Memory (suc at) priority) (suc before) made is = stays-memory at priority ts before made is
grows-created ts _ (suc before) made is = stays made (slice_get ts before) is

-- so it stands there after one more entry
pub table-grows : (h : History) (entry : Entry) (table : ℕ) (exists : Exists h table)
    → GrowsBy exists.made (new_columns table entry.what) (new_defaults table entry.what) (table_at (h ++ entry ∷ []) table)
table-grows h entry table exists =
    let now = grows-created (tables h) entry.what table exists.made exists.is in
    record {
      info = now.info;
      is = ap (λ (ts : List TableInfo). table_among ts table) (tables-push h entry) ∙ now.is;
      schema = now.schema;
      defaults = now.defaults;
      shape = now.shape;
    }

-- a table stands there with the same shape, the columns and defaults that it had, and others behind them
pub record GrowsTo (made : TableInfo) (found : Option TableInfo) : Type 0 where
  pub columns : List Column
  pub values : List Value
  pub by : GrowsBy made columns values found

-- and so it stands there in each longer history
pub table-longer : (h more : History) (table : ℕ) (exists : Exists h table) → GrowsTo exists.made (table_at (h ++ more) table)
table-longer h more table exists =
    each_longer (λ (log : History). GrowsTo exists.made (table_at log table))
    (λ log entry so_far.
    let now = table-grows log entry table (record { made = so_far.by.info; is = so_far.by.is }) in
    record {
      columns = so_far.columns ++ new_columns table entry.what;
      values = so_far.values ++ new_defaults table entry.what;
      by = record {
        info = now.info;
        is = now.is;
        schema =
            now.schema
            ∙ (ap (λ (l : List Column). l ++ new_columns table entry.what) so_far.by.schema
            ∙ append_assoc exists.made.schema so_far.columns (new_columns table entry.what));
        defaults =
            now.defaults
            ∙ (ap (λ (l : List Value). l ++ new_defaults table entry.what) so_far.by.defaults
            ∙ append_assoc exists.made.defaults so_far.values (new_defaults table entry.what));
        shape = now.shape ∙ so_far.by.shape;
      };
    })
    h more (record { columns = []; values = []; by = stays exists.made (table_at h table) exists.is })

-- a table that exists is there after one more entry
pub Exists-push : (h : History) (entry : Entry) (table : ℕ) → Exists h table → Exists (h ++ entry ∷ []) table
Exists-push h entry table exists = let now = table-grows h entry table exists in record { made = now.info; is = now.is }

-- it is cut as before
pub per_at-push : (h : History) (entry : Entry) (table : ℕ) → Exists h table → per_at (h ++ entry ∷ []) table ≡ per_at h table
per_at-push h entry table exists =
    let now = table-grows h entry table exists in
    rw (now.is, exists.is) (ap per_extent now.shape)

-- and it has as many columns as before, and the new ones
pub columns-push : (h : History) (entry : Entry) (table : ℕ) → Exists h table
    → columns_of (table_at (h ++ entry ∷ []) table) ≡ columns_of (table_at h table) + length (new_columns table entry.what)
columns-push h entry table exists =
    let now = table-grows h entry table exists in
    rw (now.is, exists.is) (ap length now.schema ∙ length-append exists.made.schema (new_columns table entry.what))

-- it never has fewer
pub columns-longer : (h more : History) (table : ℕ) → Exists h table → columns_of (table_at h table) ≤ columns_of (table_at (h ++ more) table)
columns-longer h more table exists =
    let now = table-longer h more table exists in
    let long = ap length now.by.schema ∙ length-append exists.made.schema now.columns in
    rw (now.by.is, exists.is) (omega (arith, long))
