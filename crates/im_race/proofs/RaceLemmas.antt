-- A race of a whole script: its prelude, and what comes behind it.
use Rattle.std.proofs.Common.{◌≡◌, ℕ, ◌+◌, Bool, true, false, if◌then◌else◌, All, List, [], ◌∷◌, length, map, Result, Ok, Err, IfOk, sym, ap, subst}
use Rattle.std.specs.Prelude.{filter, slice_index_or}
use Rattle.std.proofs.lemmas.List.Elements.{All-cons, All-head, All-nil, All-tail}
use Rattle.im_history.specs.History.{History}
use Rattle.im_history.specs.declared.entry.Entry.{Entry}
use Rattle.im_plan.specs.Goes.{After}
use Rattle.im_play.specs.Between.{machine_of}
use Rattle.im_play.specs.Lines.{IsKnown}
use Rattle.im_play.specs.Machine.{Comes, Machine, idle, state_in, without_builds}
use Rattle.im_play.specs.Requests.{demands_of, script_limits}
use Rattle.im_play.proofs.KnownLemmas.{known_line}
use Rattle.im_race.specs.inner.Closing.{IsBeside}
use Rattle.im_race.specs.Jobs.{Answer, HasPlayed}
use Rattle.im_race.specs.Lines.{behind_of, ends_prelude, has_job, names, prelude_of, raced, sessions_in}
use Rattle.im_race.specs.Race.{AreWorkers, FIRST_WORKER, IsRace, IsRaceOf, takes_part}
use Rattle.im_race.specs.Report.{Report}
use Rattle.im_reach.specs.Sides.{Known}
use Rattle.im_replies.specs.declared.reply.Reply.{Reply}
use Rattle.im_script.specs.declared.line.Line.{Line}
use Rattle.im_script.specs.Forms.{lines_of}
use Rattle.im_script.specs.Lines.{AreLines, NamesOneOf16}
use Rattle.im_session.specs.Sessions.{Kept, state_of}
use Rattle.im_statements.specs.Outcomes.{State, fresh}
use Rattle.im_worker.specs.Background as background

-- ---- the lines

-- what the lines of a script have is known
pub known-lines : (n : ℕ) (bytes : List (List ℕ)) (lines : List Line) → AreLines n bytes lines → All NamesOneOf16 lines
    → All (λ (line : Line). IsKnown line.kind) lines
known-lines n [] [] are named = All-nil (λ (line : Line). IsKnown line.kind)
known-lines n [] (line ∷ lines) are named = absurd are
known-lines n (b ∷ bytes) [] are named = absurd are
known-lines n (b ∷ bytes) (line ∷ lines) are named =
    All-cons (λ (l : Line). IsKnown l.kind) line lines (known_line n b line are.0 (All-head NamesOneOf16 line lines named))
    (known-lines (n + 1) bytes lines are.1 (All-tail NamesOneOf16 line lines named))

module _ (P : Line → Type 0) where
  front : (b : Bool) (line : Line) (lines : List Line) → P line → All P lines → All P (if b then [] else line ∷ lines)
  front true line lines first all = All-nil P
  front false line lines first all = All-cons P line lines first all

  -- what holds of all lines holds of those of the prelude
  pub all-prelude : (lines : List Line) → All P lines → All P (prelude_of lines)
  all-prelude [] all = All-nil P
  all-prelude (line ∷ lines) all =
      front (ends_prelude line.kind) line (prelude_of lines) (All-head P line lines all) (all-prelude lines (All-tail P line lines all))

  back : (b : Bool) (lines behind : List Line) → All P lines → All P behind → All P (if b then lines else behind)
  back true lines behind all rest = all
  back false lines behind all rest = rest

  -- and of those behind it
  pub all-behind : (lines : List Line) → All P lines → All P (behind_of lines)
  all-behind [] all = All-nil P
  all-behind (line ∷ lines) all =
      back (ends_prelude line.kind) lines (behind_of lines) (All-tail P line lines all) (all-behind lines (All-tail P line lines all))

-- ---- the whole

module _ (area workers turns : ℕ) (lines : List Line) (machine : Machine) (now : Known) (sessions : List Kept) (kept : background.Kept) (report : Report)
    (dropped : machine_of now sessions kept ≡ without_builds machine)
    (beside : IsBeside area workers turns sessions now.log (behind_of lines) report) where
  base : now.log ≡ (without_builds machine).history
  base = ap (λ (m : Machine). m.history) dropped

  states : map (λ (s : Kept). state_of s.cursors) sessions ≡ machine.states
  states = ap (λ (m : Machine). m.states) dropped

  played : (who : ℕ) → has_job (raced lines) who ≡ true
      → HasPlayed area who (state_in machine who) (without_builds machine).history
      (filter (λ (answer : Answer). names who answer.line.who) beside.answers) report.history
  played who job =
      subst (λ (l : List State). HasPlayed area who (slice_index_or l who fresh) (without_builds machine).history
      (filter (λ (answer : Answer). names who answer.line.who) beside.answers) report.history) states
      (subst (λ (h : History). HasPlayed area who (slice_index_or (map (λ (s : Kept). state_of s.cursors) sessions) who fresh) h
      (filter (λ (answer : Answer). names who answer.line.who) beside.answers) report.history) base (beside.jobs who job))

  pub raced-lines : (before after : ℕ) → Comes idle (demands_of area (prelude_of lines)) report.prelude machine before after
      → IsRace area workers turns lines report
  raced-lines before after comes = record {
    machine = machine;
    before = before;
    after = after;
    prelude = comes;
    grew =
        subst (λ (h : History). After (All (λ (entry : Entry). takes_part (raced lines) workers entry.who ≡ true)) h report.history) base beside.grew;
    lawful = beside.lawful;
    answers = beside.answers;
    shown = beside.shown;
    answered = beside.answered;
    told = beside.told;
    jobs = played;
    ended = beside.ended;
    did =
        subst (λ (h : History). AreWorkers (script_limits area) turns (length (sessions_in (raced lines))) FIRST_WORKER report.ends h report.history) base
        beside.did;
  }

-- a prelude that came to this from the start, and what came behind it, are a race of the lines
pub raced-prelude : (area workers turns given : ℕ) (lines prelude behind : List Line) (start machine : Machine) (now : Known)
    (sessions : List Kept) (kept : background.Kept) (report : Report) (replies : List (ℕ × Reply)) (before after : ℕ) → given ≡ area
    → prelude ≡ prelude_of lines → behind ≡ behind_of lines → start ≡ idle
    → Comes start (demands_of given prelude) replies machine before after → machine_of now sessions kept ≡ without_builds machine
    → IsBeside area workers turns sessions now.log behind report → report.prelude ≡ replies → IsRace area workers turns lines report
raced-prelude area workers turns given lines prelude behind start machine now sessions kept report replies before after given_is prelude_is behind_is
    start_is comes dropped beside replies_are =
    raced-lines area workers turns lines machine now sessions kept report dropped
    (subst (λ (l : List Line). IsBeside area workers turns sessions now.log l report) behind_is beside) before after
    (subst (λ (l : List (ℕ × Reply)). Comes idle (demands_of area (prelude_of lines)) l machine before after) (sym replies_are)
    (subst (λ (m : Machine). Comes m (demands_of area (prelude_of lines)) replies machine before after) start_is
    (subst (λ (l : List Line). Comes start (demands_of area l) replies machine before after) prelude_is
    (subst (λ (n : ℕ). Comes start (demands_of n prelude) replies machine before after) given_is comes))))

-- a race of the lines of a script is a race of the script
pub raced-script : {E : Type 0} (area workers turns : ℕ) (script : List ℕ) (lines played : List Line) (answer : Result Report E)
    → AreLines 1 (lines_of script) lines → played ≡ lines → IfOk answer (λ (report : Report). IsRace area workers turns played report)
    → IfOk answer (λ (report : Report). IsRaceOf area workers turns script report)
raced-script area workers turns script lines played (Ok report) are same race =
    record { lines = lines; are = are; race = subst (λ (l : List Line). IsRace area workers turns l report) same race }
raced-script area workers turns script lines played (Err error) are same race = tt

-- two facts of an answer give a third
pub both-ok : {T E : Type 0} {P Q S : T → Type 0} (answer : Result T E) → IfOk answer P → IfOk answer Q → ((value : T) → P value → Q value → S value)
    → IfOk answer S
both-ok (Ok value) p q on = on value p q
both-ok (Err error) p q on = tt
