-- A line of a script once it is read.
use Rattle.std.specs.Prelude.{◌≤◌, ℕ, List}
use Rattle.im_script.specs.declared.line.Line.{Line}
use Rattle.im_script.specs.declared.line.LineKind.{LineKind}
use Rattle.im_script.specs.declared.line.LineKind.TheVariants as line
use Rattle.im_script.specs.Lines.{IsLine}
use Rattle.im_syntax.specs.Rules.{IsStmt}
use Rattle.im_values.specs.declared.limits.TheConstants.{SESSIONS}

-- the line of these bytes, with its number
pub record IsRead (number : ℕ) (bytes : List ℕ) (line : Line) : Type 0 where
  pub is_line : IsLine number bytes line

-- a line that has a statement has one of the language, of a session or of the background
abbrev pub HasStatement : LineKind → Type 0
HasStatement line.Skip = Unit {0}
HasStatement line.Race = Unit {0}
HasStatement (line.Long length) = Unit {0}
HasStatement (line.Bad byte) = Unit {0}
HasStatement (line.Session who statement) = (1 ≤ who) × (who ≤ SESSIONS) × IsStmt statement
HasStatement (line.Background statement) = IsStmt statement
HasStatement line.NoMemory = Unit {0}

pub record IsKnown (kind : LineKind) : Type 0 where
  pub statement : HasStatement kind
