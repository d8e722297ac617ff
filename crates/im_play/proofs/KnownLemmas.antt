-- What a line has is known: a statement of the language, of a session from 1 to 16 or of the background.
use Rattle.std.proofs.Common.{ℕ, List, Option}
use Rattle.im_syntax.specs.Rules.{IsStmt, IsStmtOf}
use Rattle.im_syntax.specs.declared.statement.Side.{Side}
use Rattle.im_syntax.specs.declared.statement.Stmt.{Stmt}
use Rattle.im_script.specs.declared.form.Form.{Form}
use Rattle.im_script.specs.declared.form.Form.TheVariants as form
use Rattle.im_script.specs.declared.line.Line.{Line}
use Rattle.im_script.specs.declared.line.LineKind.{LineKind}
use Rattle.im_script.specs.declared.line.LineKind.TheVariants as kind
use Rattle.im_script.specs.Forms.{form_of}
use Rattle.im_script.specs.Lines.{IsLine, HasKind, Says, SpeaksAs, NamesOneOf16, statement, bad_byte, bad_token, no_memory}
use Rattle.im_play.specs.Lines.{IsKnown, HasStatement}

-- the statement of a line is one of the language
abbrev OfLanguage : LineKind → Type 0
OfLanguage (kind.Session who s) = IsStmt s
OfLanguage (kind.Background s) = IsStmt s
OfLanguage k = Unit {0}

says_known : (whose : Side) (before : ℕ) (line : List ℕ) (of : Stmt → LineKind) (k : LineKind) →
    ((s : Stmt) → IsStmtOf whose s → OfLanguage (of s)) → Says whose before line of k → OfLanguage k
says_known whose before line of _ each (statement ts s lexes is same) = each s is
says_known whose before line of _ each (bad_byte n bad) = tt
says_known whose before line of _ each (bad_token ts n lexes place) = tt
says_known whose before line of _ each no_memory = tt

kind_known : (f : Form) (line : List ℕ) (k : LineKind) → HasKind f line k → OfLanguage k
kind_known form.Long line k has = rw has tt
kind_known form.Skip line k has = rw has tt
kind_known form.Race line k has = rw has tt
kind_known form.Bare line k has = rw has tt
kind_known (form.Session n before) line k has = says_known _ before line (kind.Session n) k (λ s is. is.is_stmt) has
kind_known (form.Background before) line k has = says_known _ before line kind.Background k (λ s is. is.is_stmt) has

known_by : (who : Option ℕ) (k : LineKind) → SpeaksAs who k → OfLanguage k → HasStatement k
known_by who (kind.Session n s) speaks is = (speaks.1, speaks.2, is)
known_by who (kind.Background s) speaks is = is
known_by who _ speaks is = tt

-- what the line of some bytes has is known
pub known_line : (n : ℕ) (bytes : List ℕ) (line : Line) → IsLine n bytes line → NamesOneOf16 line → IsKnown line.kind
known_line n bytes line is names = record { statement = known_by line.who line.kind names.speaks (kind_known (form_of bytes) bytes line.kind is.kind) }
