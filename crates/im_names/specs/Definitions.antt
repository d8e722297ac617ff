-- CREATE TABLE and the INMEMORY clause.
use Rattle.std.specs.Prelude.{ℕ, List, Option}
use Rattle.std.specs.Option.{unwrap_or}
use Rattle.im_values.specs.declared.schema.Kind.{Kind}
use Rattle.im_values.specs.declared.schema.Kind.TheVariants as kind
use Rattle.im_values.specs.declared.schema.Column.{Column}
use Rattle.im_syntax.specs.declared.table.KindWord.{KindWord}
use Rattle.im_syntax.specs.declared.table.KindWord.TheVariants as word
use Rattle.im_syntax.specs.declared.table.ColumnPart.{ColumnPart}
use Rattle.im_syntax.specs.declared.table.MemoryPart.{MemoryPart}
use Rattle.im_history.specs.Grid.{Grid, default_grid}
use Rattle.im_values.specs.declared.priority.Priority.{Priority}
use Rattle.im_values.specs.declared.priority.Priority.TheVariants as priority

-- NUMBER and INTEGER are both numbers
abbrev pub kind_of : KindWord → Kind
kind_of word.Number = kind.Int
kind_of word.Integer = kind.Int
kind_of (word.Varchar2 n) = kind.Text n

abbrev pub column_of : ColumnPart → Column
column_of c = record { name = c.name; kind = kind_of c.kind }

abbrev pub column_name : ColumnPart → List ℕ
column_name c = c.name

-- the shape of a table that names none, unless others are written
abbrev pub shape_of : Option ℕ → Option ℕ → Grid
shape_of block extent = record { block = unwrap_or block default_grid.block; extent = unwrap_or extent default_grid.extent }

-- an INMEMORY clause without PRIORITY has the priority NONE
abbrev pub priority_of : MemoryPart → Priority
priority_of m = unwrap_or m.level priority.None
