-- How the statements that make and change tables are read.
use Rattle.std.specs.Prelude.{ℕ, ◌-◌, Bool, List, Option, is_some}
use Rattle.im_readers.specs.Reading.{Read, nothing, both, made, after, before, optional, picked, joined_up_to}
use Rattle.im_syntax.specs.declared.keyword.Keyword.{Keyword}
use Rattle.im_syntax.specs.declared.keyword.Keyword.TheVariants as key
use Rattle.im_syntax.specs.declared.token.Token.{Token}
use Rattle.im_syntax.specs.declared.table.KindWord.{KindWord}
use Rattle.im_syntax.specs.declared.table.KindWord.TheVariants as kind
use Rattle.im_syntax.specs.declared.table.ColumnPart.{ColumnPart}
use Rattle.im_values.specs.declared.limits.TheConstants.{MOST_COLUMNS, MOST_IN_SHAPE}
use Rattle.im_values.specs.declared.priority.Priority.{Priority}
use Rattle.im_syntax.specs.declared.limits.TheConstants.{MOST_TEXT_BYTES}
use Rattle.im_syntax.specs.declared.table.MemoryPart.{MemoryPart}
use Rattle.im_syntax.specs.declared.literal.Lit.{Lit}
use Rattle.im_syntax.specs.declared.statement.Stmt.{Stmt}
use Rattle.im_syntax.specs.declared.statement.Stmt.TheVariants as stmt
use Rattle.im_parse.specs.inner.Marks.{is_key, Lead, keyword, lead, is_left, is_right, is_comma, word_at, after_word, name_at, number_at, lit_at, level_at}
use Rattle.im_parse.specs.declared.tables.Alteration.{Alteration}
use Rattle.im_parse.specs.declared.tables.Alteration.TheVariants as altered

-- ---- columns

unfoldable pub varchar2_at : List Token → Read Token ℕ
varchar2_at = after_word key.Varchar2 (after is_left (before (number_at 1 MOST_TEXT_BYTES) is_right))

abbrev pub kind_by : Lead → List Token → Read Token KindWord
kind_by (keyword key.Number) = made (λ u. kind.Number) (word_at key.Number)
kind_by (keyword key.Integer) = made (λ u. kind.Integer) (word_at key.Integer)
kind_by (keyword key.Varchar2) = made kind.Varchar2 varchar2_at
kind_by l = nothing

unfoldable pub kind_at : List Token → Read Token KindWord
kind_at = picked lead kind_by

abbrev pub column_of : List ℕ × KindWord → ColumnPart
column_of x = record { name = x.0; kind = x.1 }

unfoldable pub column_at : List Token → Read Token ColumnPart
column_at = made column_of (both name_at kind_at)

-- columns in parentheses
unfoldable pub columns_at : List Token → Read Token (List ColumnPart)
columns_at = after is_left (before (joined_up_to (MOST_COLUMNS - 1) is_comma column_at) is_right)

-- ---- options

unfoldable pub compress_at : List Token → Read Token Bool
compress_at = made is_some (optional (is_key key.MemCompress) (after_word key.MemCompress (after_word key.For (after_word key.Query (word_at key.Low)))))

unfoldable pub priority_at : List Token → Read Token (Option Priority)
priority_at = optional (is_key key.Priority) (after_word key.Priority level_at)

abbrev pub memory_of : Bool × Option Priority → MemoryPart
memory_of x = record { compress = x.0; level = x.1 }

unfoldable pub memory_at : List Token → Read Token MemoryPart
memory_at = made memory_of (after_word key.InMemory (both compress_at priority_at))

unfoldable pub option_at : Keyword → List Token → Read Token (Option ℕ)
option_at k = optional (is_key k) (after_word k (number_at 1 MOST_IN_SHAPE))

unfoldable pub memory_option_at : List Token → Read Token (Option MemoryPart)
memory_option_at = optional (is_key key.InMemory) memory_at

-- ---- statements

abbrev pub create_of : List ℕ × (List ColumnPart × (Option ℕ × (Option ℕ × Option MemoryPart))) → Stmt
create_of x = stmt.Create x.0 x.1.0 x.1.1.0 x.1.1.1.0 x.1.1.1.1

unfoldable pub create_at : List Token → Read Token Stmt
create_at =
    made create_of
    (after_word key.Create (after_word key.Table (both name_at (both columns_at (both (option_at key.Block) (both (option_at key.Extent) memory_option_at))))))

unfoldable pub default_at : List Token → Read Token (Option Lit)
default_at = optional (is_key key.Default) (after_word key.Default lit_at)

abbrev pub added_of : ColumnPart × Option Lit → Alteration
added_of x = altered.Column x.0 x.1

unfoldable pub added_at : List Token → Read Token Alteration
added_at = made added_of (after_word key.Add (after is_left (before (both column_at default_at) is_right)))

abbrev pub altered_by : Lead → List Token → Read Token Alteration
altered_by (keyword key.InMemory) = made altered.Memory memory_at
altered_by (keyword key.No) = made (λ u. altered.NoMemory) (after_word key.No (word_at key.InMemory))
altered_by (keyword key.Add) = added_at
altered_by l = nothing

unfoldable pub altered_at : List Token → Read Token Alteration
altered_at = picked lead altered_by

abbrev pub alter_of : List ℕ × Alteration → Stmt
alter_of (name, altered.Memory memory) = stmt.AlterMemory name memory
alter_of (name, altered.NoMemory) = stmt.AlterNoMemory name
alter_of (name, altered.Column column default) = stmt.AddColumn name column default

unfoldable pub alter_at : List Token → Read Token Stmt
alter_at = made alter_of (after_word key.Alter (after_word key.Table (both name_at altered_at)))
