-- A lawful race: a prelude that one plays, then sessions and workers beside each other, and the one history of what they did.
use Rattle.std.specs.Prelude.{◌≡◌, ℕ, suc, ◌+◌, ◌&&◌, ◌||◌, nat_le, nat_lt, Bool, true, List, [], ◌∷◌, All, filter, length, map, None, ⊤}
use Rattle.im_history.specs.declared.limits.Limits.{Limits}
use Rattle.im_history.specs.declared.entry.Entry.{Entry}
use Rattle.im_history.specs.History.{History}
use Rattle.im_history.specs.Legal.{IsLawful}
use Rattle.im_plan.specs.Goes.{After}
use Rattle.im_play.specs.Machine.{Comes, Machine, idle, state_in, without_builds}
use Rattle.im_play.specs.Requests.{LineDemand, Told, demand_of, demands_of, script_limits}
use Rattle.im_race.specs.Jobs.{Answer, HasPlayed, Worker}
use Rattle.im_race.specs.Lines.{has_job, names, prelude_of, raced, sessions_in}
use Rattle.im_race.specs.Report.{Report}
use Rattle.im_replies.specs.declared.reply.Reply.{Reply}
use Rattle.im_script.specs.declared.line.Line.{Line}
use Rattle.im_script.specs.Forms.{lines_of}
use Rattle.im_script.specs.Lines.{AreLines}
use Rattle.im_values.specs.declared.limits.TheConstants.{SESSIONS}
use Rattle.im_worker.specs.declared.work.Ended.{Ended}

-- the number of the first worker
abbrev pub FIRST_WORKER : ℕ
FIRST_WORKER = SESSIONS + 1

-- the history with which a race begins: the prelude's, with the builds that its background held cancelled
abbrev pub base_of : Machine → History
base_of machine = (without_builds machine).history

-- those who take part: the sessions that have a job, and so many workers
abbrev pub takes_part : List Line → ℕ → ℕ → Bool
takes_part lines workers who = has_job lines who || (nat_le FIRST_WORKER who && nat_lt who (FIRST_WORKER + workers))

-- a line that belongs to no session has the one reply that it is told
pub record IsReplyForNobody (reply : Reply) (demand : LineDemand) : Type 0 where
  pub number : ℕ
  pub told : demand ≡ Told number reply

-- the workers from this number on did their jobs and ended so, from the history `old` to the history `new`
abbrev pub AreWorkers : Limits → ℕ → ℕ → ℕ → List Ended → History → History → Type 0
AreWorkers limits turns sessions number [] old new = ⊤
AreWorkers limits turns sessions number (ended ∷ ends) old new =
    Worker limits turns sessions number old ended new × AreWorkers limits turns sessions (suc number) ends old new

-- a lawful race of these lines, with this area, so many workers, and so many turns for each
pub record IsRace (area workers turns : ℕ) (lines : List Line) (report : Report) : Type 0 where
  -- the prelude is the machine's; its steps are counted from some number to another, which no report shows
  pub machine : Machine
  pub before : ℕ
  pub after : ℕ
  pub prelude : Comes idle (demands_of area (prelude_of lines)) report.prelude machine before after
  -- the history goes on from it by entries of those who take part, and is legal
  pub grew : After (All (λ (entry : Entry). takes_part (raced lines) workers entry.who ≡ true)) (base_of machine) report.history
  pub lawful : IsLawful (script_limits area) report.history
  -- each line behind the prelude is answered, in order
  pub answers : List Answer
  pub shown : report.answers ≡ map (λ (answer : Answer). (answer.line.number, answer.reply)) answers
  pub answered : map (λ (answer : Answer). answer.line) answers ≡ raced lines
  pub told : All (λ (answer : Answer). answer.line.who ≡ None → IsReplyForNobody answer.reply (demand_of area answer.line)) answers
  -- each session played its lines and left, whatever others did meanwhile
  pub jobs : (who : ℕ) → has_job (raced lines) who ≡ true
      → HasPlayed area who (state_in machine who) (base_of machine)
      (filter (λ answer. names who answer.line.who) answers) report.history
  -- each worker did its job
  pub ended : length report.ends ≡ workers
  pub did : AreWorkers (script_limits area) turns (length (sessions_in (raced lines))) FIRST_WORKER report.ends
      (base_of machine) report.history

-- a lawful race of a script
pub record IsRaceOf (area workers turns : ℕ) (script : List ℕ) (report : Report) : Type 0 where
  pub lines : List Line
  pub are : AreLines 1 (lines_of script) lines
  pub race : IsRace area workers turns lines report
