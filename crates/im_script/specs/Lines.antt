-- What the lines of a script are.
use Rattle.std.specs.Prelude.{◌≡◌, ℕ, ◌+◌, ◌≤◌, nat_lt, List, [], ◌∷◌, length, drop, slice_index, if◌then◌else◌, Option, Some, IfSome}
use Rattle.im_values.specs.declared.limits.TheConstants.{SESSIONS}
use Rattle.im_syntax.specs.declared.token.Token.{Token}
use Rattle.im_syntax.specs.declared.statement.Side.{Side}
use Rattle.im_syntax.specs.declared.statement.Side.TheVariants as side
use Rattle.im_syntax.specs.declared.statement.Stmt.{Stmt}
use Rattle.im_syntax.specs.Spelling.{spelling}
use Rattle.im_syntax.specs.Rules.{IsStmtOf}
use Rattle.im_lex.specs.Lexing.{Lexes, IsBadAt, tokens_of, places_of}
use Rattle.im_parse.specs.Parsing.{IsPlaceAmong}
use Rattle.im_script.specs.declared.form.Form.{Form}
use Rattle.im_script.specs.declared.form.Form.TheVariants as form
use Rattle.im_script.specs.declared.line.LineKind.{LineKind}
use Rattle.im_script.specs.declared.line.LineKind.TheVariants as kind
use Rattle.im_script.specs.declared.line.Line.{Line}
use Rattle.im_script.specs.Forms.{first_of, form_of, who_of}

-- The byte of a token, from 1: so many bytes stand before the statement. Behind the last token it is one past the line.
abbrev pub byte_of : ℕ → ℕ → List ℕ → ℕ → ℕ
byte_of before long places n = if nat_lt n (length places) then before + slice_index places n + 1 else long + 1

-- What the statement part of a line says, on which side, behind so many bytes.
pub data Says (whose : Side) (before : ℕ) (line : List ℕ) (of : Stmt → LineKind) : LineKind → Type 0 where
  statement : (ts : List (Token × ℕ)) (s : Stmt) → Lexes 0 (drop before line) ts → IsStmtOf whose s → tokens_of ts ≡ spelling s
      → Says whose before line of (of s)
  bad_byte : (n : ℕ) → IsBadAt 0 (drop before line) n → Says whose before line of (kind.Bad (before + n + 1))
  bad_token : (ts : List (Token × ℕ)) (n : ℕ) → Lexes 0 (drop before line) ts → IsPlaceAmong (IsStmtOf whose) (tokens_of ts) n
      → Says whose before line of (kind.Bad (byte_of before (length line) (places_of ts) n))
  no_memory : Says whose before line of kind.NoMemory

-- the kind of a line, by its form
abbrev pub HasKind : Form → List ℕ → LineKind → Type 0
HasKind form.Long line k = k ≡ kind.Long (length line)
HasKind form.Skip line k = k ≡ kind.Skip
HasKind form.Race line k = k ≡ kind.Race
HasKind form.Bare line k = k ≡ kind.Bad (first_of line)
HasKind (form.Session n before) line k = Says side.Session before line (kind.Session n) k
HasKind (form.Background before) line k = Says side.Background before line kind.Background k

-- the line of these bytes, with its number
pub record IsLine (n : ℕ) (bytes : List ℕ) (l : Line) : Type 0 where
  pub number : l.number ≡ n
  pub first : l.first ≡ first_of bytes
  pub who : l.who ≡ who_of (form_of bytes)
  pub kind : HasKind (form_of bytes) bytes l.kind

-- the one that speaks in a line of this kind: the session of its statement, or the background, which has the number 0
abbrev pub SpeaksAs : Option ℕ → LineKind → Type 0
SpeaksAs who (kind.Session n s) = (who ≡ Some n) × (1 ≤ n) × (n ≤ SESSIONS)
SpeaksAs who (kind.Background s) = who ≡ Some 0
SpeaksAs who kind.Skip = Unit {0}
SpeaksAs who kind.Race = Unit {0}
SpeaksAs who (kind.Long length) = Unit {0}
SpeaksAs who (kind.Bad byte) = Unit {0}
SpeaksAs who kind.NoMemory = Unit {0}

-- A line names a session, or the background by 0, or nobody; and its statement is that one's.
pub record NamesOneOf16 (l : Line) : Type 0 where
  pub who : IfSome l.who (λ n. n ≤ SESSIONS)
  pub speaks : SpeaksAs l.who l.kind

-- each line is that of its bytes, numbered from n
abbrev pub AreLines : ℕ → List (List ℕ) → List Line → Type 0
AreLines n [] [] = Unit {0}
AreLines n [] (l ∷ ls) = ⊥
AreLines n (b ∷ bs) [] = ⊥
AreLines n (b ∷ bs) (l ∷ ls) = IsLine n b l × AreLines (n + 1) bs ls
