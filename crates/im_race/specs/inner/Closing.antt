-- What the lines behind a prelude come to, once the store is closed.
use Rattle.std.specs.Prelude.{◌≡◌, ◌≢◌, ℕ, All, Contains, List, [], filter, length, map, None, slice_index_or, true}
use Rattle.im_history.specs.declared.entry.Entry.{Entry}
use Rattle.im_history.specs.History.{History}
use Rattle.im_history.specs.Legal.{IsLawful}
use Rattle.im_plan.specs.Goes.{After}
use Rattle.im_play.specs.Requests.{demand_of, script_limits}
use Rattle.im_race.specs.Jobs.{Answer, HasPlayed}
use Rattle.im_race.specs.Lines.{has_job, names, raced_of, sessions_in}
use Rattle.im_race.specs.Race.{AreWorkers, FIRST_WORKER, IsReplyForNobody, takes_part}
use Rattle.im_race.specs.Report.{Report}
use Rattle.im_script.specs.declared.line.Line.{Line}
use Rattle.im_session.specs.Sessions.{Kept, state_of}
use Rattle.im_statements.specs.Outcomes.{fresh}
use Rattle.im_store.specs.Sides.{limits_of, who_of}
use Rattle.im_turn.specs.Logs.{Begins, entries_since}
use Rattle.im_turn.specs.Passes.{PassState}

-- the store was closed with this history, once these passes had joined the first one
pub record IsClosed (first : PassState Entry) (passes : List (PassState Entry)) (log : History) : Type 0 where
  pub begins : Begins first.seen log
  pub each_begins : All (λ (pass : PassState Entry). Begins pass.seen log) passes
  pub each_own : All (λ (pass : PassState Entry). entries_since who_of pass.who first.base log ≡ pass.mine) passes
  pub own : entries_since who_of first.who first.base log ≡ first.mine
  pub others : (n : ℕ) → n ≢ first.who → ¬ Contains (map (λ (pass : PassState Entry). pass.who) passes) n → entries_since who_of n first.base log ≡ []
  pub lawful : IsLawful (limits_of first.fixed) log

-- sessions that kept this, and workers, played these lines beside each other, from this history on, with this report
pub record IsBeside (area workers turns : ℕ) (kept : List Kept) (base : History) (behind : List Line) (report : Report) : Type 0 where
  pub grew : After (All (λ (entry : Entry). takes_part (raced_of behind) workers entry.who ≡ true)) base report.history
  pub lawful : IsLawful (script_limits area) report.history
  pub answers : List Answer
  pub shown : report.answers ≡ map (λ (answer : Answer). (answer.line.number, answer.reply)) answers
  pub answered : map (λ (answer : Answer). answer.line) answers ≡ raced_of behind
  pub told : All (λ (answer : Answer). answer.line.who ≡ None → IsReplyForNobody answer.reply (demand_of area answer.line)) answers
  pub jobs : (who : ℕ) → has_job (raced_of behind) who ≡ true
      → HasPlayed area who (slice_index_or (map (λ (s : Kept). state_of s.cursors) kept) who fresh) base
      (filter (λ (answer : Answer). names who answer.line.who) answers) report.history
  pub ended : length report.ends ≡ workers
  pub did : AreWorkers (script_limits area) turns (length (sessions_in (raced_of behind))) FIRST_WORKER report.ends base report.history
