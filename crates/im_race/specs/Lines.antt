-- The lines of a race: those before the line `race>`, which one plays, and those behind it, which sessions play beside each other.
use Rattle.std.specs.Prelude.{ℕ, zero, suc, ◌==◌, ◌&&◌, Bool, true, false, List, [], ◌∷◌, filter, map, Option, Some, None, if◌then◌else◌}
use Rattle.std.specs.List.{list_any}
use Rattle.im_play.specs.Requests.{BACKGROUND}
use Rattle.im_script.specs.declared.line.Line.{Line}
use Rattle.im_script.specs.declared.line.LineKind.{LineKind}
use Rattle.im_script.specs.declared.line.LineKind.TheVariants as kind
use Rattle.im_values.specs.declared.limits.TheConstants.{SESSIONS}

-- the line ends a prelude
abbrev pub ends_prelude : LineKind → Bool
ends_prelude kind.Skip = false
ends_prelude kind.Race = true
ends_prelude (kind.Long length) = false
ends_prelude (kind.Bad byte) = false
ends_prelude (kind.Session who statement) = false
ends_prelude (kind.Background statement) = false
ends_prelude kind.NoMemory = false

-- the lines of the prelude: those before the first line that ends it, or all where none does
abbrev pub prelude_of : List Line → List Line
prelude_of [] = []
prelude_of (line ∷ lines) = if ends_prelude line.kind then [] else line ∷ prelude_of lines

-- the lines behind that one
abbrev pub behind_of : List Line → List Line
behind_of [] = []
behind_of (line ∷ lines) = if ends_prelude line.kind then lines else behind_of lines

-- a line has a reply: blanks, comments and the end of a prelude have none
abbrev pub has_reply : LineKind → Bool
has_reply kind.Skip = false
has_reply kind.Race = false
has_reply (kind.Long length) = true
has_reply (kind.Bad byte) = true
has_reply (kind.Session who statement) = true
has_reply (kind.Background statement) = true
has_reply kind.NoMemory = true

-- this number speaks in the line
abbrev pub names : ℕ → Option ℕ → Bool
names who None = false
names who (Some number) = number == who

-- a line behind the prelude: one of the background leaves the language there, at its first byte that is no blank
abbrev pub as_raced : Line → Line
as_raced line = if names BACKGROUND line.who then record line { who = None; kind = kind.Bad line.first } else line

-- the session speaks in a line that has a reply
abbrev pub speaks_in : ℕ → Line → Bool
speaks_in who line = has_reply line.kind && names who line.who

-- the lines that are raced, of those behind the prelude
abbrev pub raced_of : List Line → List Line
raced_of behind = map as_raced (filter (λ line. has_reply line.kind) behind)

-- the lines of a script that are raced, in order
abbrev pub raced : List Line → List Line
raced lines = raced_of (behind_of lines)

-- the session speaks in one of these lines, so it has a job
abbrev pub has_job : List Line → ℕ → Bool
has_job lines who = list_any (λ line. names who line.who) lines

-- so many numbers, from one on
abbrev pub numbers_from : ℕ → ℕ → List ℕ
numbers_from first zero = []
numbers_from first (suc count) = first ∷ numbers_from (suc first) count

-- the sessions that have a job, by rising numbers
abbrev pub sessions_in : List Line → List ℕ
sessions_in lines = filter (has_job lines) (numbers_from 1 SESSIONS)
