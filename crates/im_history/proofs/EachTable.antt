-- What holds of each table, as a history goes on.
use Rattle.std.proofs.Common.{◌≡◌, ℕ, zero, suc, List, [], ◌∷◌, All, Option, Some, None, is_some, slice_get, refl, ap, subst}
use Rattle.std.proofs.lemmas.Bool.{false≢true}
use Rattle.std.proofs.lemmas.List.Elements.{All-nil, All-cons, All-append, All-head, All-tail}
use Rattle.im_values.specs.declared.content.Content.{Content as Value}
use Rattle.im_values.specs.declared.priority.Priority.{Priority}
use Rattle.im_values.specs.declared.schema.Column.{Column}
use Rattle.im_history.specs.declared.entry.What.{What}
use Rattle.im_history.specs.declared.entry.What.TheVariants.{Create, Add, Memory}
use Rattle.im_history.specs.declared.look.TableInfo.{TableInfo}
use Rattle.im_history.specs.Grid.{Grid}
use Rattle.im_history.specs.Tables.{created, longer_by, new_table, table_among, with_column, with_memory}

none_there : {X : Type 0} (x : X) → None ≡ Some x → ⊥
none_there x is = false≢true (ap is_some is)

found_at : (P : TableInfo → Type 0) (ts : List TableInfo) (place : ℕ) (made : TableInfo) → All P ts → slice_get ts place ≡ Some made → P made
found_at P [] place made all is = absurd (none_there made is)
found_at P (t ∷ ts) zero made all is = let same : t ≡ made = cc in subst P same (All-head P t ts all)
found_at P (t ∷ ts) (suc place) made all is = found_at P ts place made (All-tail P t ts all) is

-- so it holds of the table of a number
pub found-among : (P : TableInfo → Type 0) (ts : List TableInfo) (table : ℕ) (made : TableInfo) → All P ts → table_among ts table ≡ Some made → P made
found-among P ts zero made all is = absurd (none_there made is)
found-among P ts (suc before) made all is = found_at P ts before made all is

all-memory : (P : TableInfo → Type 0) (at : ℕ) (priority : Option Priority) (ts : List TableInfo)
    → ((t : TableInfo) → P t → P (record t { memory = priority })) → All P ts → All P (with_memory at priority ts)
all-memory P at priority [] keeps all = All-nil P
all-memory P zero priority (t ∷ ts) keeps all =
    All-cons P (record t { memory = priority }) ts (keeps t (All-head P t ts all)) (All-tail P t ts all)
all-memory P (suc at) priority (t ∷ ts) keeps all =
    All-cons P t (with_memory at priority ts) (All-head P t ts all) (all-memory P at priority ts keeps (All-tail P t ts all))

all-column : (P : TableInfo → Type 0) (at : ℕ) (column : Column) (default : Value) (ts : List TableInfo)
    → ((t : TableInfo) → P t → P (longer_by column default t)) → All P ts → All P (with_column at column default ts)
all-column P at column default [] keeps all = All-nil P
all-column P zero column default (t ∷ ts) keeps all =
    All-cons P (longer_by column default t) ts (keeps t (All-head P t ts all)) (All-tail P t ts all)
all-column P (suc at) column default (t ∷ ts) keeps all =
    All-cons P t (with_column at column default ts) (All-head P t ts all) (all-column P at column default ts keeps (All-tail P t ts all))

-- what an entry makes of tables keeps what holds of each
pub record Keeps (P : TableInfo → Type 0) (what : What) : Type 0 where
  pub made : (name : List ℕ) (schema : List Column) (grid : Grid) → what ≡ Create name schema grid → P (new_table name schema grid)
  pub grown : (table : ℕ) (column : Column) (default : Value) → what ≡ Add table column default → (t : TableInfo) → P t → P (longer_by column default t)
  pub joined : (priority : Option Priority) (t : TableInfo) → P t → P (record t { memory = priority })

pub all-created : (P : TableInfo → Type 0) (ts : List TableInfo) (what : What) → Keeps P what → All P ts → All P (created ts what)
all-created P ts (Create name schema grid) keeps all =
    All-append P ts (new_table name schema grid ∷ []) all
    (All-cons P (new_table name schema grid) [] (keeps.made name schema grid refl) (All-nil P))
all-created P ts (Add zero column default) keeps all = all
all-created P ts (Add (suc at) column default) keeps all = all-column P at column default ts (keeps.grown (suc at) column default refl) all
all-created P ts (Memory zero priority) keeps all = all
all-created P ts (Memory (suc at) priority) keeps all = all-memory P at priority ts (keeps.joined priority) all
all-created P ts _ keeps all = all
