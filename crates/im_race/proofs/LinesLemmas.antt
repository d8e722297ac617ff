-- Which lines are raced, and by whom: laws on the lists of them.
use Rattle.std.proofs.Common.{◌≡◌, ℕ, zero, suc, ◌+◌, ◌<◌, ◌≤◌, ◌&&◌, ◌||◌, Bool, true, false, cond, List, [], ◌∷◌, ◌++◌, All, length, map, take, drop, Option, Some, None, refl, sym, ap, ◌∙◌, inl, inr, arith}
use Rattle.std.specs.Prelude.{Contains, IfSome, filter}
use Rattle.std.specs.List.{list_any}
use Rattle.std.proofs.lemmas.Bool.{cases_eq, false≢true}
use Rattle.std.proofs.lemmas.Bool.Decides.{nat_tests}
use Rattle.std.proofs.lemmas.List.Elements.{All-cons, All-head, All-nil, All-tail, All-weaker, Contains-append_left, Contains-append_right}
use Rattle.im_race.specs.inner.Answering.{Rises}
use Rattle.im_race.specs.Lines.{as_raced, behind_of, has_job, has_reply, names, numbers_from, prelude_of, raced_of, sessions_in, speaks_in}
use Rattle.im_race.specs.Race.{FIRST_WORKER}
use Rattle.im_script.specs.declared.line.Line.{Line}
use Rattle.im_script.specs.declared.line.LineKind.TheVariants as kind
use Rattle.im_script.specs.Lines.{NamesOneOf16}
use Rattle.im_values.specs.declared.limits.TheConstants.{SESSIONS}

-- ---- the numbers that speak in lines

-- where the background speaks no session does
names-one : (who : ℕ) (speaker : Option ℕ) → 1 ≤ who → names 0 speaker ≡ true → names who speaker ≡ false
names-one who None one is = refl
names-one who (Some number) one is = grind (arith, nat_tests)

names-raced : (background : Bool) (line : Line) (who : ℕ) → 1 ≤ who → names 0 line.who ≡ background
    → names who (cond background (record line { who = None; kind = kind.Bad line.first }) line).who ≡ names who line.who
names-raced true line who one is = sym (names-one who line.who one is)
names-raced false line who one is = refl

any-raced : (reply : Bool) (line : Line) (lines : List Line) (who : ℕ) → 1 ≤ who
    → list_any (λ (l : Line). names who l.who) (map as_raced (cond reply (line ∷ lines) lines))
    ≡ ((reply && names who line.who) || list_any (λ (l : Line). names who l.who) (map as_raced lines))
any-raced true line lines who one =
    ap (λ (b : Bool). b || list_any (λ (l : Line). names who l.who) (map as_raced lines)) (names-raced (names 0 line.who) line who one refl)
any-raced false line lines who one = refl

-- a session has a job exactly where it speaks in a line that has a reply
pub has_job-raced : (behind : List Line) (who : ℕ) → 1 ≤ who → has_job (raced_of behind) who ≡ list_any (speaks_in who) behind
has_job-raced [] who one = refl
has_job-raced (line ∷ behind) who one =
    any-raced (has_reply line.kind) line (filter (λ (l : Line). has_reply l.kind) behind) who one
    ∙ ap (λ (b : Bool). speaks_in who line || b) (has_job-raced behind who one)

own-raced : (background : Bool) (line : Line) (rest : List Line) (who : ℕ) → 1 ≤ who → names 0 line.who ≡ background
    → cond (names who (cond background (record line { who = None; kind = kind.Bad line.first }) line).who)
    (cond background (record line { who = None; kind = kind.Bad line.first }) line ∷ rest) rest
    ≡ cond (names who line.who) (line ∷ rest) rest
own-raced true line rest who one is = ap (λ (b : Bool). cond b (line ∷ rest) rest) (sym (names-one who line.who one is))
own-raced false line rest who one is = refl

own-step : (reply : Bool) (line : Line) (lines : List Line) (who : ℕ) → 1 ≤ who
    → filter (λ (l : Line). names who l.who) (map as_raced (cond reply (line ∷ lines) lines))
    ≡ cond (reply && names who line.who) (line ∷ filter (λ (l : Line). names who l.who) (map as_raced lines))
    (filter (λ (l : Line). names who l.who) (map as_raced lines))
own-step true line lines who one =
    own-raced (names 0 line.who) line (filter (λ (l : Line). names who l.who) (map as_raced lines)) who one refl
own-step false line lines who one = refl

-- of the raced lines, those that name a session are those in which it speaks
pub own-lines : (behind : List Line) (who : ℕ) → 1 ≤ who
    → filter (λ (line : Line). names who line.who) (raced_of behind) ≡ filter (speaks_in who) behind
own-lines [] who one = refl
own-lines (line ∷ behind) who one =
    own-step (has_reply line.kind) line (filter (λ (l : Line). has_reply l.kind) behind) who one
    ∙ ap (λ (ls : List Line). cond (speaks_in who line) (line ∷ ls) ls) (own-lines behind who one)

-- ---- numbers that rise

-- and what rises from a number on rises from a lower one on
rises-lower : (numbers : List ℕ) (low least : ℕ) → low ≤ least → Rises least numbers → Rises low numbers
rises-lower [] low least below rises = tt
rises-lower (number ∷ numbers) low least below rises =
    let from : least ≤ number = rises.0 in
    (omega arith, rises.1)

rises-kept : (test : Bool) (number : ℕ) (numbers : List ℕ) → Rises (suc number) numbers → Rises number (cond test (number ∷ numbers) numbers)
rises-kept true number numbers rises = (omega arith, rises)
rises-kept false number numbers rises = rises-lower numbers number (suc number) (omega arith) rises

rises-filter : (test : ℕ → Bool) (first count : ℕ) → Rises first (filter test (numbers_from first count))
rises-filter test first zero = tt
rises-filter test first (suc count) =
    rises-kept (test first) first (filter test (numbers_from (suc first) count)) (rises-filter test (suc first) count)

rises-from : (first count : ℕ) → Rises first (numbers_from first count)
rises-from first zero = tt
rises-from first (suc count) = (omega arith, rises-from (suc first) count)

rises-append : (numbers : List ℕ) (least first count : ℕ) → least ≤ first → All (λ (n : ℕ). n < first) numbers → Rises least numbers
    → Rises least (numbers ++ numbers_from first count)
rises-append [] least first count below under rises = rises-lower (numbers_from first count) least first below (rises-from first count)
rises-append (number ∷ numbers) least first count below under rises =
    let here : number < first = under 0 0 (omega arith) in
    (rises.0, rises-append numbers (suc number) first count (omega arith) (All-tail (λ (n : ℕ). n < first) number numbers under) rises.1)

-- ---- those that have a job

record IsCounted (test : ℕ → Bool) (first count who : ℕ) : Type 0 where
  pub from : first ≤ who
  pub below : who < first + count
  pub passes : test who ≡ true

counted-kept : (test : ℕ → Bool) (first count : ℕ) (b : Bool) → test first ≡ b
    → All (IsCounted test first (suc count)) (filter test (numbers_from (suc first) count))
    → All (IsCounted test first (suc count)) (cond b (first ∷ filter test (numbers_from (suc first) count)) (filter test (numbers_from (suc first) count)))
counted-kept test first count true is rest =
    All-cons (IsCounted test first (suc count)) first (filter test (numbers_from (suc first) count))
    (record { from = omega arith; below = omega arith; passes = is }) rest
counted-kept test first count false is rest = rest

counted-more : (test : ℕ → Bool) (first count who : ℕ) → IsCounted test (suc first) count who → IsCounted test first (suc count) who
counted-more test first count who counted =
    let from : suc first ≤ who = counted.from in
    let below : who < suc first + count = counted.below in
    record { from = omega arith; below = omega arith; passes = counted.passes }

counted : (test : ℕ → Bool) (first count : ℕ) → All (IsCounted test first count) (filter test (numbers_from first count))
counted test first zero = All-nil (IsCounted test first 0)
counted test first (suc count) =
    counted-kept test first count (test first) refl
    (All-weaker (IsCounted test (suc first) count) (IsCounted test first (suc count)) (counted-more test first count)
    (filter test (numbers_from (suc first) count)) (counted test (suc first) count))

among-kept : (b : Bool) (first : ℕ) (rest : List ℕ) (who : ℕ) → Contains rest who → Contains (cond b (first ∷ rest) rest) who
among-kept true first rest who there = Contains-append_right (first ∷ []) rest who there
among-kept false first rest who there = there

among-here : (b : Bool) (first : ℕ) (rest : List ℕ) (who : ℕ) → first ≡ who → b ≡ true → Contains (cond b (first ∷ rest) rest) who
among-here true first rest who same is = (0, omega arith, same)
among-here false first rest who same is = absurd (false≢true is)

among : (test : ℕ → Bool) (first count who : ℕ) → first ≤ who → who < first + count → test who ≡ true
    → Contains (filter test (numbers_from first count)) who
among test first zero who from below passes = absurd (omega arith)
among test first (suc count) who from below passes =
    elim (cases_eq first who) [
      | inl same ↦ among-here (test first) first (filter test (numbers_from (suc first) count)) who same (ap test same ∙ passes)
      | inr other ↦ among-kept (test first) first (filter test (numbers_from (suc first) count)) who
          (among test (suc first) count who (omega (arith, other)) (omega arith) passes)
    ]

-- a session that has a job
pub record IsSession (lines : List Line) (who : ℕ) : Type 0 where
  pub one : 1 ≤ who
  pub most : who ≤ SESSIONS
  pub job : has_job lines who ≡ true

session-counted : (lines : List Line) (who : ℕ) → IsCounted (has_job lines) 1 SESSIONS who → IsSession lines who
session-counted lines who counted =
    let below : who < 1 + SESSIONS = counted.below in
    record { one = counted.from; most = omega arith; job = counted.passes }

pub sessions-have_jobs : (lines : List Line) → All (IsSession lines) (sessions_in lines)
sessions-have_jobs lines =
    All-weaker (IsCounted (has_job lines) 1 SESSIONS) (IsSession lines) (session-counted lines) (sessions_in lines)
    (counted (has_job lines) 1 SESSIONS)

-- the numbers of those who take part rise, so they are apart
pub numbers-apart : (lines : List Line) (workers : ℕ) → Rises 1 (sessions_in lines ++ numbers_from FIRST_WORKER workers)
numbers-apart lines workers =
    rises-append (sessions_in lines) 1 FIRST_WORKER workers (omega arith)
    (All-weaker (IsSession lines) (λ (n : ℕ). n < FIRST_WORKER) (λ n session. let most : n ≤ SESSIONS = session.most in omega arith)
    (sessions_in lines) (sessions-have_jobs lines))
    (rises-filter (has_job lines) 1 SESSIONS)

-- each session that has a job is among them
pub session-takes_part : (lines : List Line) (workers who : ℕ) → 1 ≤ who → who ≤ SESSIONS → has_job lines who ≡ true
    → Contains (sessions_in lines ++ numbers_from FIRST_WORKER workers) who
session-takes_part lines workers who one most job =
    Contains-append_left (sessions_in lines) (numbers_from FIRST_WORKER workers) who
    (among (has_job lines) 1 SESSIONS who one (omega arith) job)

-- ---- only sessions have jobs

session-named : (who : ℕ) (speaker : Option ℕ) → names 0 speaker ≡ false → names who speaker ≡ true → IfSome speaker (λ n. n ≤ SESSIONS)
    → (1 ≤ who) × (who ≤ SESSIONS)
session-named who None nobody speaks named = absurd (false≢true speaks)
session-named who (Some number) nobody speaks named =
    let same : number ≡ who = grind (arith, nat_tests) in
    let some : number ≡ 0 → ⊥ = grind (arith, nat_tests) in
    (omega (arith, same, some), omega (arith, same, named))

session-raced : (background : Bool) (line : Line) (who : ℕ) → names 0 line.who ≡ background
    → names who (cond background (record line { who = None; kind = kind.Bad line.first }) line).who ≡ true → IfSome line.who (λ n. n ≤ SESSIONS)
    → (1 ≤ who) × (who ≤ SESSIONS)
session-raced true line who is speaks named = absurd (false≢true speaks)
session-raced false line who is speaks named = session-named who line.who is speaks named

session-either : (here behind : Bool) (who : ℕ) → (here ≡ true → (1 ≤ who) × (who ≤ SESSIONS)) → (behind ≡ true → (1 ≤ who) × (who ≤ SESSIONS))
    → (here || behind) ≡ true → (1 ≤ who) × (who ≤ SESSIONS)
session-either true behind who at_once later is = at_once refl
session-either false behind who at_once later is = later is

session-cons : (reply : Bool) (line : Line) (lines : List Line) (who : ℕ) → IfSome line.who (λ n. n ≤ SESSIONS)
    → (has_job (map as_raced lines) who ≡ true → (1 ≤ who) × (who ≤ SESSIONS))
    → has_job (map as_raced (cond reply (line ∷ lines) lines)) who ≡ true → (1 ≤ who) × (who ≤ SESSIONS)
session-cons true line lines who named later job =
    session-either (names who (as_raced line).who) (has_job (map as_raced lines) who) who
    (λ speaks. session-raced (names 0 line.who) line who refl speaks named) later job
session-cons false line lines who named later job = later job

-- who has a job is a session
pub has_job-session : (behind : List Line) (who : ℕ) → All NamesOneOf16 behind → has_job (raced_of behind) who ≡ true → (1 ≤ who) × (who ≤ SESSIONS)
has_job-session [] who named job = absurd (false≢true job)
has_job-session (line ∷ behind) who named job =
    session-cons (has_reply line.kind) line (filter (λ (l : Line). has_reply l.kind) behind) who
    (All-head NamesOneOf16 line behind named).who (has_job-session behind who (All-tail NamesOneOf16 line behind named)) job

-- ---- the lines of a prelude

-- a script is cut at a place before which no line ends the prelude
pub record IsCut (lines : List Line) (at : ℕ) : Type 0 where
  pub within : at ≤ length lines
  pub prelude : take at lines ++ prelude_of (drop at lines) ≡ prelude_of lines
  pub behind : behind_of (drop at lines) ≡ behind_of lines
