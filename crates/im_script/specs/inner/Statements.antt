-- The kinds of lines with a statement part.
use Rattle.std.specs.Prelude.{◌≡◌, ◌⊎◌, ℕ, List, length}
use Rattle.im_syntax.specs.declared.token.Token.{Token}
use Rattle.im_syntax.specs.declared.statement.Side.{Side}
use Rattle.im_syntax.specs.declared.statement.Side.TheVariants as side
use Rattle.im_syntax.specs.declared.statement.Stmt.{Stmt}
use Rattle.im_lex.specs.Lexing.{places_of}
use Rattle.im_script.specs.declared.line.LineKind.{LineKind}
use Rattle.im_script.specs.declared.line.LineKind.TheVariants as kind
use Rattle.im_script.specs.Lines.{byte_of}

-- the kind of a statement, of a session of this number or of the background
abbrev pub kind_of : Side → ℕ → Stmt → LineKind
kind_of side.Session number s = kind.Session number s
kind_of side.Background number s = kind.Background s

-- the kind is a bad byte, at the n-th of the tokens, unless memory ran out
abbrev pub IsBadToken : ℕ → List ℕ → List (Token × ℕ) → ℕ → LineKind → Type 0
IsBadToken before line ts n k = (k ≡ kind.Bad (byte_of before (length line) (places_of ts) n)) ⊎ (k ≡ kind.NoMemory)
