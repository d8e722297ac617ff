-- The tables once one of them has joined the column store or left it, or has got a column.
use Rattle.std.proofs.Common.{◌≡◌, ℕ, zero, suc, ◌-◌, ◌<◌, ◌≤◌, List, [], ◌∷◌, length, slice_index_or, slice_set, Option, refl, sym, ap, arith}
use Rattle.im_values.specs.declared.content.Content.{Content as Value}
use Rattle.im_values.specs.declared.priority.Priority.{Priority}
use Rattle.im_values.specs.declared.schema.Column.{Column}
use Rattle.im_history.specs.declared.look.TableInfo.{TableInfo}
use Rattle.im_history.specs.Tables.{lengthened, longer_by, remembered, with_column, with_memory}

set_memory : (place : ℕ) (priority : Option Priority) (ts : List TableInfo) (default : TableInfo) → place < length ts
    → slice_set ts place (record (slice_index_or ts place default) { memory = priority }) ≡ with_memory place priority ts
set_memory place priority [] default within = absurd (omega (arith, within))
set_memory zero priority (t ∷ ts) default within = refl
set_memory (suc place) priority (t ∷ ts) default within =
    ap (λ (rest : List TableInfo). t ∷ rest) (set_memory place priority ts default (omega (arith, within)))

-- the table of this number was set
pub set-remembered : (table : ℕ) (priority : Option Priority) (ts : List TableInfo) (default : TableInfo) → 0 < table → table ≤ length ts
    → slice_set ts (table - 1) (record (slice_index_or ts (table - 1) default) { memory = priority }) ≡ remembered table priority ts
set-remembered zero priority ts default some within = absurd (omega (arith, some))
set-remembered (suc place) priority ts default some within =
    let before : suc place - 1 ≡ place = omega arith in
    rw before (set_memory place priority ts default (omega (arith, within)))

past_memory : (place : ℕ) (priority : Option Priority) (ts : List TableInfo) → length ts ≤ place → with_memory place priority ts ≡ ts
past_memory place priority [] past = refl
past_memory zero priority (t ∷ ts) past = absurd (omega (arith, past))
past_memory (suc place) priority (t ∷ ts) past = ap (λ (rest : List TableInfo). t ∷ rest) (past_memory place priority ts (omega (arith, past)))

-- there is no table of this number
pub past-remembered : (table : ℕ) (priority : Option Priority) (ts : List TableInfo) → (0 < table → length ts < table) → ts ≡ remembered table priority ts
past-remembered zero priority ts past = refl
past-remembered (suc place) priority ts past = let beyond = past (omega arith) in sym (past_memory place priority ts (omega (arith, beyond)))

-- ---- a table got a column

set_column : (place : ℕ) (column : Column) (default : Value) (ts : List TableInfo) (other : TableInfo) → place < length ts
    → slice_set ts place (longer_by column default (slice_index_or ts place other)) ≡ with_column place column default ts
set_column place column default [] other within = absurd (omega (arith, within))
set_column zero column default (t ∷ ts) other within = refl
set_column (suc place) column default (t ∷ ts) other within =
    ap (λ (rest : List TableInfo). t ∷ rest) (set_column place column default ts other (omega (arith, within)))

-- the table of this number was set
pub set-lengthened : (table : ℕ) (column : Column) (default : Value) (ts : List TableInfo) (other : TableInfo) → 0 < table → table ≤ length ts
    → slice_set ts (table - 1) (longer_by column default (slice_index_or ts (table - 1) other)) ≡ lengthened table column default ts
set-lengthened zero column default ts other some within = absurd (omega (arith, some))
set-lengthened (suc place) column default ts other some within =
    let before : suc place - 1 ≡ place = omega arith in
    rw before (set_column place column default ts other (omega (arith, within)))

past_column : (place : ℕ) (column : Column) (default : Value) (ts : List TableInfo) → length ts ≤ place → with_column place column default ts ≡ ts
past_column place column default [] past = refl
past_column zero column default (t ∷ ts) past = absurd (omega (arith, past))
past_column (suc place) column default (t ∷ ts) past =
    ap (λ (rest : List TableInfo). t ∷ rest) (past_column place column default ts (omega (arith, past)))

-- there is no table of this number
pub past-lengthened : (table : ℕ) (column : Column) (default : Value) (ts : List TableInfo) → (0 < table → length ts < table)
    → ts ≡ lengthened table column default ts
past-lengthened zero column default ts past = refl
past-lengthened (suc place) column default ts past =
    let beyond = past (omega arith) in sym (past_column place column default ts (omega (arith, beyond)))
