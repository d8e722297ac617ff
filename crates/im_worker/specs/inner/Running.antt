-- How a line of the background is played over the builds that it holds.
use Rattle.std.specs.Prelude.{◌≡◌, ℕ, suc, ◌+◌, ◌*◌, false, List, [], length, Option, Some, None}
use Rattle.im_history.specs.declared.task.Task.{Task}
use Rattle.im_history.specs.History.{History}
use Rattle.im_history.specs.Tables.{tables}
use Rattle.im_names.specs.declared.resolved.Resolved.{Resolved}
use Rattle.im_names.specs.declared.resolved.Resolved.TheVariants as resolved
use Rattle.im_names.specs.Statements.{resolution}
use Rattle.im_plan.specs.Goes.{Goes, Others}
use Rattle.im_plan.specs.Plan.{Plan, Turn}
use Rattle.im_reach.specs.Rests.{Counted}
use Rattle.im_reach.specs.Sides.{Known, speaks}
use Rattle.im_replies.specs.declared.reply.Reply.{Reply}
use Rattle.im_replies.specs.declared.task.Built.{Built}
use Rattle.im_replies.specs.declared.task.Ending.{Ending}
use Rattle.im_statements.specs.Background.{Answered, CommandOutcome, command_plan, drop_all, evict_found, run}
use Rattle.im_syntax.specs.declared.statement.Stmt.{Stmt}
use Rattle.im_worker.specs.Background.{Ready, tasks_of}
use Rattle.im_worker.specs.inner.Rests.{IsRest}
use Rattle.im_worker.specs.inner.Standing.{Stands}

-- the line went by this plan, and these builds are held then
pub record IsRun (who : ℕ) (plan : Plan CommandOutcome) (before : List Ready) (old : Known) (reply : Reply) (after : List Ready) (new : Known) : Type 0 where
  pub rest : IsRest who 0 (tasks_of before) old plan (Answered reply (tasks_of after)) new
  pub stands : Stands who after [] new.log

-- EVICT, the table's name being looked up first
abbrev pub evict_named : ℕ → List Task → Stmt → Plan CommandOutcome
evict_named who builds statement = Turn false (λ at. None) (λ at. evict_found who builds (resolution (tables at) statement))

-- the extent that is to be evicted, where it is an EVICT
abbrev pub extent_of : Resolved → Option (ℕ × ℕ)
extent_of (resolved.Evict table extent) = Some (table, extent)
extent_of _ = None

-- all builds that were held ended without their units
pub record WereDropped (who : ℕ) (before : List Ready) (old new : Known) : Type 0 where
  pub known : new ≡ record old { log = new.log }
  pub goes : Goes (Others (speaks old.side)) who old.log (drop_all (tasks_of before)) tt new.log
  pub stands : Stands who [] [] new.log

-- some of them did: whatever the rest comes to, the whole comes to
pub record IsDropping (who : ℕ) (before left : List Ready) (old now : Known) : Type 0 where
  pub onward :
      (last : History) → Goes (Others (speaks old.side)) who now.log (drop_all (tasks_of left)) tt last
      → Goes (Others (speaks old.side)) who old.log (drop_all (tasks_of before)) tt last
  pub known : now ≡ record old { log = now.log }
  pub stands : Stands who left [] now.log

-- RUN, these builds having begun and ended, ends with this reply, in so many rounds more at least
pub record IsLast (who : ℕ) (builds : List Ready) (so_far : List (Built × Ending)) (old : Known) (reply : Reply) (new : Known) : Type 0 where
  pub rest : IsRest who (2 * length so_far) (tasks_of builds) old (run old.limits who (tasks_of builds) 1 so_far) (Answered reply (tasks_of builds)) new
  pub stands : Stands who builds [] new.log

-- a round of RUN: whatever the rest comes to in so many rounds, the whole comes to in one more
pub record IsRound (who : ℕ) (builds : List Ready) (so_far now_far : List (Built × Ending)) (old new : Known) : Type 0 where
  pub onward :
      (rounds : ℕ) (outcome : CommandOutcome) (last : Known)
      → IsRest who (2 * length now_far) (tasks_of builds) new (run old.limits who (tasks_of builds) rounds now_far) outcome last
      → IsRest who (2 * length so_far) (tasks_of builds) old (run old.limits who (tasks_of builds) (suc rounds) so_far) outcome last
  pub kept : Counted old new
  pub longer : length now_far ≡ length so_far + 1
  pub stands : Stands who builds [] new.log

abbrev pub IsTurn : ℕ → List Ready → List (Built × Ending) → List (Built × Ending) → Known → Option Reply → Known → Type 0
IsTurn who builds so_far now_far old (Some reply) new = IsLast who builds so_far old reply new
IsTurn who builds so_far now_far old None new = IsRound who builds so_far now_far old new

-- RUN so far: whatever its rest comes to in so many rounds, the whole comes to
pub record IsRunning (who : ℕ) (builds : List Ready) (so_far : List (Built × Ending)) (old now : Known) : Type 0 where
  pub onward :
      (rounds : ℕ) (outcome : CommandOutcome) (last : Known)
      → IsRest who (2 * length so_far) (tasks_of builds) now (run old.limits who (tasks_of builds) rounds so_far) outcome last
      → IsRest who 0 (tasks_of builds) old (run old.limits who (tasks_of builds) (length so_far + rounds) []) outcome last
  pub kept : Counted old now
  pub stands : Stands who builds [] now.log

-- RUN came to its end
pub record IsRan (who : ℕ) (builds : List Ready) (old : Known) (reply : Reply) (new : Known) : Type 0 where
  pub rounds : ℕ
  pub is_run : IsRun who (run old.limits who (tasks_of builds) rounds []) builds old reply builds new

-- a statement was played so
pub record IsCommand (who : ℕ) (statement : Stmt) (before : List Ready) (old : Known) (reply : Reply) (after : List Ready) (new : Known) : Type 0 where
  pub rounds : ℕ
  pub is_run : IsRun who (command_plan old.limits who rounds (tasks_of before) statement) before old reply after new
