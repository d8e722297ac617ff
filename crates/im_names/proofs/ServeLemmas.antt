-- What a statement resolves to fits the tables.
use Rattle.std.proofs.Common.{◌≡◌, ℕ, zero, suc, ◌+◌, ◌≤◌, Bool, true, false, cond, List, [], ◌∷◌, length, map, Option, Some, None, Result, Ok, Err, refl, ap, ◌∙◌, arith}
use Rattle.std.specs.Prelude.{slice_get}
use Rattle.std.specs.List.{find, position_from}
use Rattle.std.specs.Option.{option_map, unwrap_or}
use Rattle.std.specs.Result.{IfOk}
use Rattle.std.proofs.lemmas.List.{length-map}
use Rattle.im_values.specs.declared.content.Content.{Content as Value}
use Rattle.im_values.specs.declared.schema.Column.{Column}
use Rattle.im_values.specs.Fits.{may_stand}
use Rattle.im_syntax.specs.declared.statement.Stmt.{Stmt}
use Rattle.im_syntax.specs.declared.statement.Stmt.TheVariants as stmt
use Rattle.im_syntax.specs.declared.query.Query.{Query}
use Rattle.im_syntax.specs.declared.bound.Bound.{Bound}
use Rattle.im_syntax.specs.declared.table.ColumnPart.{ColumnPart}
use Rattle.im_syntax.specs.declared.table.MemoryPart.{MemoryPart}
use Rattle.im_syntax.specs.declared.literal.Lit.{Lit}
use Rattle.im_syntax.specs.Condition.{CondOf}
use Rattle.im_values.specs.declared.priority.Priority.{Priority}
use Rattle.im_syntax.specs.Rules.{IsStmt, IsCreate, IsInsert}
use Rattle.im_history.specs.Grid.{IsInRange, default_grid}
use Rattle.im_history.specs.Tables.{is_named, table_among}
use Rattle.im_history.specs.declared.look.TableInfo.{TableInfo}
use Rattle.im_names.specs.declared.fault.NameFault.{NameFault}
use Rattle.im_names.specs.declared.resolved.Resolved.{Resolved}
use Rattle.im_names.specs.declared.resolved.Resolved.TheVariants as resolved
use Rattle.im_names.specs.Faults.{first_fault, unless, formed}
use Rattle.im_names.specs.Literals.{default_of, stored}
use Rattle.im_names.specs.Lookups.{table_called, table_number, of_table, in_table, standing, unknown_fault, listed_fault, repeated_fault}
use Rattle.im_names.specs.Conditions.{where_names, where_values, values_fault, filter_of}
use Rattle.im_names.specs.Rows.{insert_fault, rows_of, update_fault, delete_fault, set_name, set_of, set_fault}
use Rattle.im_names.specs.Queries.{query_fault, bound_of}
use Rattle.im_names.specs.Definitions.{column_of, column_name, shape_of, priority_of}
use Rattle.im_names.specs.Statements.{resolution, query_answer, create_answer, memory_answer, added_fault, add_answer}
use Rattle.im_names.specs.Fitting.{DefaultsFit, FilterServes, OfTable, QueryServes, RowsServe, Serves, UpdateServes}
use Rattle.im_names.proofs.FitLemmas.{neither, where_fits, query_fits}
use Rattle.im_names.proofs.QueryLemmas.{is_query}
use Rattle.im_names.proofs.RowLemmas.{sets_serve, rows_serve, stored_stands}

-- ---- answers taken apart

record IsValue {A : Type 0} (fault : Option NameFault) (value x : A) : Type 0 where
  pub free : fault ≡ None
  pub is : x ≡ value

unless_value : {A : Type 0} (fault : Option NameFault) (value x : A) → unless fault value ≡ Ok x → IsValue fault value x
unless_value None value x e = record { free = refl; is = cc }
unless_value (Some f) value x e = absurd cc

record IsFormed {A B : Type 0} (form : A → B) (resolution : Result A NameFault) (x : B) : Type 0 where
  pub value : A
  pub answered : resolution ≡ Ok value
  pub is : x ≡ form value

formed_value : {A B : Type 0} (form : A → B) (resolution : Result A NameFault) (x : B) → formed form resolution ≡ Ok x → IsFormed form resolution x
formed_value form (Ok a) x e = record { value = a; answered = refl; is = cc }
formed_value form (Err f) x e = absurd cc

-- ---- the table of a name

record IsAt (t : TableInfo → Bool) (i : ℕ) (tables : List TableInfo) (table : TableInfo) : Type 0 where
  pub place : ℕ
  pub position : position_from t i tables ≡ Some (i + place)
  pub there : slice_get tables place ≡ Some table

first_at : (t : TableInfo → Bool) (b : Bool) (i : ℕ) (x : TableInfo) (xs : List TableInfo) (table : TableInfo) → t x ≡ b
    → cond b (Some x) (find t xs) ≡ Some table → (find t xs ≡ Some table → IsAt t (i + 1) xs table) → IsAt t i (x ∷ xs) table
first_at t true i x xs table is e later =
    let same : i ≡ i + 0 = omega arith in
    record { place = 0; position = rw is (ap Some same); there = e }
first_at t false i x xs table is e later =
    let rest = later e in
    let same : i + 1 + rest.place ≡ i + suc rest.place = omega arith in
    record { place = suc rest.place; position = rw is (rest.position ∙ ap Some same); there = rest.there }

found_at : (t : TableInfo → Bool) (i : ℕ) (tables : List TableInfo) (table : TableInfo) → find t tables ≡ Some table → IsAt t i tables table
found_at t i [] table e = absurd cc
found_at t i (x ∷ xs) table e = first_at t (t x) i x xs table refl e (found_at t (i + 1) xs table)

record Answered {A : Type 0} (tables : List TableInfo) (name : List ℕ) (of : ℕ → TableInfo → Result A NameFault) (x : A) : Type 0 where
  pub table : TableInfo
  pub is_there : table_among tables (table_number tables name) ≡ Some table
  pub answered : of (table_number tables name) table ≡ Ok x

number_there : (tables : List TableInfo) (name : List ℕ) (table : TableInfo) → table_called tables name ≡ Some table
    → table_among tables (table_number tables name) ≡ Some table
number_there tables name table e =
    let at = found_at (is_named name) 0 tables table e in
    let same : 0 + at.place ≡ at.place = omega arith in
    rw (at.position, same, at.there) refl

answered_at : {A : Type 0} (tables : List TableInfo) (name : List ℕ) (of : ℕ → TableInfo → Result A NameFault) (x : A) (o : Option TableInfo)
    → table_called tables name ≡ o
    → of_table o name (λ table. of (table_number tables name) table) ≡ Ok x → Answered tables name of x
answered_at tables name of x None is e = absurd cc
answered_at tables name of x (Some table) is e = record { table = table; is_there = number_there tables name table is; answered = e }

answered : {A : Type 0} (tables : List TableInfo) (name : List ℕ) (of : ℕ → TableInfo → Result A NameFault) (x : A) → in_table tables name of ≡ Ok x
    → Answered tables name of x
answered tables name of x e = answered_at tables name of x (table_called tables name) refl e

-- what holds of the columns of a table that stands there
of_its : (tables : List TableInfo) (number : ℕ) (table : TableInfo) (P : List Column → Type 0) → table_among tables number ≡ Some table → P table.schema
    → OfTable tables number P
of_its tables zero table P is holds = absurd cc
of_its tables (suc before) table P is holds = record {
  columns = table.schema;
  are_of = ap (option_map (λ (t : TableInfo). t.schema)) is;
  is = holds;
}

-- ---- each statement

query_serves : (tables : List TableInfo) (q : Query) (bound : Bound) → query_answer tables q ≡ Ok bound → OfTable tables bound.table (QueryServes bound)
query_serves tables q bound e =
    let a = answered tables q.table (λ number table. unless (query_fault table.schema q) (bound_of number table.schema q)) bound e in
    let columns = a.table.schema in
    let v = unless_value (query_fault columns q) (bound_of (table_number tables q.table) columns q) bound a.answered in
    let number = table_number tables q.table in
    let serves_of : QueryServes (bound_of number columns q) columns = record {
      rows = λ row f. query_fits row columns f number q v.free;
      query = is_query columns number q v.free;
    } in
    rw v.is (of_its tables number a.table (QueryServes (bound_of number columns q)) a.is_there serves_of)

some_columns : (name : List ℕ) (columns : List ColumnPart) (block extent : Option ℕ) → IsCreate name columns block extent → 1 ≤ length columns
some_columns name [] block extent good = absurd good.columns.0
some_columns name (c ∷ cs) block extent good = omega arith

block_in_range : (name : List ℕ) (columns : List ColumnPart) (block extent : Option ℕ) → IsCreate name columns block extent
    → IsInRange (unwrap_or block default_grid.block)
block_in_range name columns None extent good = record { some = omega arith; few = omega arith }
block_in_range name columns (Some n) extent good = record { some = good.block.low_end; few = good.block.high_end }

extent_in_range : (name : List ℕ) (columns : List ColumnPart) (block extent : Option ℕ) → IsCreate name columns block extent
    → IsInRange (unwrap_or extent default_grid.extent)
extent_in_range name columns block None good = record { some = omega arith; few = omega arith }
extent_in_range name columns block (Some n) good = record { some = good.extent.low_end; few = good.extent.high_end }

create_serves : (tables : List TableInfo) (name : List ℕ) (columns : List ColumnPart) (block extent : Option ℕ) (memory : Option MemoryPart)
    (r : Resolved) → IsCreate name columns block extent → create_answer name columns block extent memory ≡ Ok r → Serves tables r
create_serves tables name columns block extent memory r good e =
    let v = unless_value (repeated_fault (map column_name columns))
    (resolved.Create name (map column_of columns) (shape_of block extent) (option_map priority_of memory)) r e in
    rw v.is (record {
      some = rw (length-map columns column_of) (some_columns name columns block extent good);
      few = rw (length-map columns column_of) good.columns.1.count;
      block = block_in_range name columns block extent good;
      extent = extent_in_range name columns block extent good;
    })

memory_serves : (tables : List TableInfo) (name : List ℕ) (priority : Option Priority) (r : Resolved) → memory_answer tables name priority ≡ Ok r
    → Serves tables r
memory_serves tables name priority r e =
    let a = answered tables name (λ number table. Ok (resolved.Memory number priority)) r e in
    let is : r ≡ resolved.Memory (table_number tables name) priority = cc (a.answered) in
    rw is (of_its tables (table_number tables name) a.table (λ columns. Unit {0}) a.is_there tt)

add_serves : (tables : List TableInfo) (name : List ℕ) (column : Column) (default : Value) (r : Resolved) → add_answer tables name column default ≡ Ok r
    → Serves tables r
add_serves tables name column default r e =
    let a = answered tables name (λ number table. unless (added_fault table.schema column default) (resolved.AddColumn number column default)) r e in
    let number = table_number tables name in
    let v = unless_value (added_fault a.table.schema column default) (resolved.AddColumn number column default) r a.answered in
    let sound = (neither (standing a.table.schema column.name) (stored default column) v.free).1 in
    rw v.is (of_its tables number a.table (λ columns. may_stand column.kind default ≡ true) a.is_there (stored_stands column default sound))

evict_serves : (tables : List TableInfo) (name : List ℕ) (extent : ℕ) (r : Resolved) → resolution tables (stmt.Evict name extent) ≡ Ok r → Serves tables r
evict_serves tables name extent r e =
    let a = answered tables name (λ number table. Ok (resolved.Evict number extent)) r e in
    let is : r ≡ resolved.Evict (table_number tables name) extent = cc (a.answered) in
    rw is (of_its tables (table_number tables name) a.table (λ columns. Unit {0}) a.is_there tt)

some_tuples : (name : List ℕ) (names : List (List ℕ)) (tuples : List (List Lit)) → IsInsert name names tuples → 1 ≤ length tuples
some_tuples name names [] good = absurd good.tuples.0
some_tuples name names (t ∷ ts) good = omega arith

insert_serves : (tables : List TableInfo) (name : List ℕ) (names : List (List ℕ)) (tuples : List (List Lit)) (r : Resolved)
    → DefaultsFit tables → IsInsert name names tuples → resolution tables (stmt.Insert name names tuples) ≡ Ok r → Serves tables r
insert_serves tables name names tuples r defaults good e =
    let a = answered tables name (λ number table. unless (insert_fault table.schema names tuples)
    (resolved.Insert number (rows_of table.schema table.defaults names tuples))) r e in
    let number = table_number tables name in
    let rows = rows_of a.table.schema a.table.defaults names tuples in
    let v = unless_value (insert_fault a.table.schema names tuples) (resolved.Insert number rows) r a.answered in
    let fit = defaults.each number a.table a.is_there in
    let serve = rows_serve a.table.schema a.table.defaults names tuples fit (some_tuples name names tuples good) v.free in
    rw v.is (of_its tables number a.table (RowsServe rows) a.is_there serve)

update_serves : (tables : List TableInfo) (name : List ℕ) (sets : List (List ℕ × Lit)) (where_ : Option (CondOf (List ℕ) Lit)) (r : Resolved)
    → resolution tables (stmt.Update name sets where_) ≡ Ok r → Serves tables r
update_serves tables name sets where_ r e =
    let a = answered tables name (λ number table. unless (update_fault table.schema sets where_)
    (resolved.Update number (filter_of table.schema where_) (map (set_of table.schema) sets))) r e in
    let columns = a.table.schema in
    let number = table_number tables name in
    let filter = filter_of columns where_ in
    let v = unless_value (update_fault columns sets where_) (resolved.Update number filter (map (set_of columns) sets)) r a.answered in
    let e1 = neither (listed_fault columns (map set_name sets)) _ v.free in
    let e2 = neither (unknown_fault columns (where_names where_)) _ e1.1 in
    let e3 = neither (first_fault (map (set_fault columns) sets)) _ e2.1 in
    let e4 = neither (values_fault columns (where_values where_)) _ e3.1 in
    rw v.is (of_its tables number a.table (UpdateServes filter (map (set_of columns) sets)) a.is_there (record {
      condition = λ row f. where_fits row columns f where_ e2.0 e4.0;
      values = sets_serve columns sets e1.0 e3.0;
    }))

delete_serves : (tables : List TableInfo) (name : List ℕ) (where_ : Option (CondOf (List ℕ) Lit)) (r : Resolved)
    → resolution tables (stmt.Delete name where_) ≡ Ok r → Serves tables r
delete_serves tables name where_ r e =
    let a = answered tables name (λ number table. unless (delete_fault table.schema where_) (resolved.Delete number (filter_of table.schema where_))) r e in
    let columns = a.table.schema in
    let number = table_number tables name in
    let filter = filter_of columns where_ in
    let v = unless_value (delete_fault columns where_) (resolved.Delete number filter) r a.answered in
    let e1 = neither (unknown_fault columns (where_names where_)) _ v.free in
    let e2 = neither (values_fault columns (where_values where_)) _ e1.1 in
    rw v.is (of_its tables number a.table (FilterServes filter) a.is_there (λ row f. where_fits row columns f where_ e1.0 e2.0))

-- a statement that names no table
plain_serves : (tables : List TableInfo) (x r : Resolved) → Serves tables x → ◌≡◌ {A = Result Resolved NameFault} (Ok x) (Ok r) → Serves tables r
plain_serves tables x r s e = let is : x ≡ r = cc in rw (← is) s

pub serves : (tables : List TableInfo) (s : Stmt) (r : Resolved) → DefaultsFit tables → IsStmt s → resolution tables s ≡ Ok r → Serves tables r
serves tables (stmt.Select q) r defaults good e = let f = formed_value resolved.Select (query_answer tables q) r e in rw f.is (query_serves tables q f.value f.answered)
serves tables (stmt.Explain q) r defaults good e =
    let f = formed_value resolved.Explain (query_answer tables q) r e in rw f.is (query_serves tables q f.value f.answered)
serves tables (stmt.OpenFor cursor q) r defaults good e =
    let f = formed_value (resolved.OpenFor cursor) (query_answer tables q) r e in rw f.is (query_serves tables q f.value f.answered)
serves tables (stmt.Create name columns block extent memory) r defaults good e = create_serves tables name columns block extent memory r good e
serves tables (stmt.AlterMemory name memory) r defaults good e = memory_serves tables name (Some (priority_of memory)) r e
serves tables (stmt.AlterNoMemory name) r defaults good e = memory_serves tables name None r e
serves tables (stmt.AddColumn name part default) r defaults good e = add_serves tables name (column_of part) (default_of default) r e
serves tables (stmt.Insert name names tuples) r defaults good e = insert_serves tables name names tuples r defaults good e
serves tables (stmt.Update name sets where_) r defaults good e = update_serves tables name sets where_ r e
serves tables (stmt.Delete name where_) r defaults good e = delete_serves tables name where_ r e
serves tables (stmt.Evict name extent) r defaults good e = evict_serves tables name extent r e
serves tables _ r defaults good e = plain_serves tables _ r tt e

-- the same of a result
pub result_serves : (tables : List TableInfo) (s : Stmt) (r : Result Resolved NameFault) → DefaultsFit tables → IsStmt s → IfOk r (λ x. resolution tables s ≡ Ok x)
    → IfOk r (Serves tables)
result_serves tables s (Ok x) defaults good e = serves tables s x defaults good e
result_serves tables s (Err f) defaults good e = tt
