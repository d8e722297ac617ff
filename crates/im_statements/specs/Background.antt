-- Statements of the background: the plan of each.
use Rattle.std.specs.Prelude.{ℕ, zero, suc, ◌+◌, ◌-◌, ◌==◌, ◌&&◌, Bool, true, false, not, nat_le, List, [], ◌∷◌, ◌++◌, Option, Some, None, Result, Ok, Err}
use Rattle.std.specs.List.{find, list_any}
use Rattle.std.specs.Option.{option_map}
use Rattle.im_history.specs.declared.entry.What.{What}
use Rattle.im_history.specs.declared.entry.What.TheVariants as what
use Rattle.im_history.specs.declared.limits.Limits.{Limits}
use Rattle.im_history.specs.declared.refused.Why.{Why}
use Rattle.im_history.specs.declared.task.Choice.{Choice}
use Rattle.im_history.specs.declared.task.Held.{Held}
use Rattle.im_history.specs.declared.task.Task.{Task}
use Rattle.im_history.specs.Area.{task_bytes, used}
use Rattle.im_history.specs.History.{History, behind}
use Rattle.im_history.specs.Horizon.{horizon, kept}
use Rattle.im_history.specs.Queue.{build_of, credits, next, task_of}
use Rattle.im_history.specs.Refusals.{evict_refusal}
use Rattle.im_history.specs.Tables.{tables}
use Rattle.im_history.specs.Units.{held, held_at, killed_of}
use Rattle.im_names.specs.declared.fault.NameFault.{NameFault}
use Rattle.im_names.specs.declared.resolved.Resolved.{Resolved}
use Rattle.im_names.specs.declared.resolved.Resolved.TheVariants as resolved
use Rattle.im_names.specs.Statements.{resolution}
use Rattle.im_plan.specs.Plan.{Plan, End, Turn}
use Rattle.im_replies.specs.declared.body.Body.{Body}
use Rattle.im_replies.specs.declared.body.Body.TheVariants as body
use Rattle.im_replies.specs.declared.reply.Reply.{Reply}
use Rattle.im_replies.specs.declared.task.Built.{Built}
use Rattle.im_replies.specs.declared.task.Ending.{Ending}
use Rattle.im_replies.specs.declared.task.Ending.TheVariants as ending
use Rattle.im_replies.specs.declared.aim.Aim.TheVariants as aim
use Rattle.im_replies.specs.Causes.{fault_of, name_fault}
use Rattle.im_syntax.specs.declared.statement.Stmt.{Stmt}
use Rattle.im_syntax.specs.declared.statement.Stmt.TheVariants as stmt
use Rattle.im_statements.specs.Turns.{memory_reply, unless_refused}

-- ---- what comes of a line

-- what comes of a line of the background: its reply, and the builds that are held then, the oldest first; or it did not come to
-- its end in so many rounds
pub data CommandOutcome : Type 0 where
  Answered : Reply → List Task → CommandOutcome
  OutOfRounds : CommandOutcome

-- a reply that is settled at no place
abbrev pub said : Body → Reply
said body = record { place = None; marks = []; body = body }

-- the line ends with this reply, and these builds are held
abbrev pub answer_with : List Task → Body → Plan CommandOutcome
answer_with builds body = End (Answered (said body) builds)

-- ---- builds

-- what is said of a build that began
abbrev pub built_of : Task → Built
built_of task = record { id = task.id; table = task.table; extent = task.extent; scn = task.scn; trickle = task.trickle }

-- the line goes on with the build that began behind this history, or with none
abbrev pub with_choice : (Task → Plan CommandOutcome) → Plan CommandOutcome → History → Option Choice → Plan CommandOutcome
with_choice on idle at None = idle
with_choice on idle at (Some choice) = on (task_of at choice)

-- the build that comes next begins, where there is one
abbrev pub begin_next : (Task → Plan CommandOutcome) → Plan CommandOutcome → Plan CommandOutcome
begin_next on idle = Turn false (λ at. option_map (build_of at) (next at)) (λ at. with_choice on idle at (next at))

-- the unit of a build fits into the area beside all that is there
abbrev pub fits_area : Limits → History → Task → Bool
fits_area limits at task = nat_le (used at + task_bytes at task) limits.area

-- the entry that ends a build whose unit is ready: it is cancelled where another entry killed it, its unit becomes current where
-- that fits, and else it is cancelled as one that does not fit
abbrev pub end_by : ℕ → Option ℕ → Bool → What
end_by id (Some place) fits_area = what.Cancel id false
end_by id None true = what.Switch id
end_by id None false = what.Cancel id true

-- what is said of that end
abbrev pub ending_by : Limits → ℕ → History → Task → Option ℕ → Bool → Ending
ending_by limits who at task (Some place) fits_area = ending.Cancelled task.id place
ending_by limits who at task None true = ending.Switch task.id (task_bytes at task) (used (behind at who (what.Switch task.id)))
ending_by limits who at task None false = ending.Full task.id (task_bytes at task) (limits.area - used at)

-- the end of a build whose unit is ready, which may be the entry that decides the line
abbrev pub finish : Bool → Limits → ℕ → Task → (Ending → Plan CommandOutcome) → Plan CommandOutcome
finish decides limits who task on =
    Turn decides (λ at. Some (end_by task.id (killed_of (held_at at task.id)) (fits_area limits at task)))
    (λ at. on (ending_by limits who at task (killed_of (held_at at task.id)) (fits_area limits at task)))

-- ---- the statements

-- RUN: builds begin and end until none is left. So many rounds may be played, one for each build and one that finds none
abbrev pub run : Limits → ℕ → List Task → ℕ → List (Built × Ending) → Plan CommandOutcome
run limits who builds zero so_far = End OutOfRounds
run limits who builds (suc rounds) so_far =
    begin_next (λ task. finish false limits who task (λ end. run limits who builds rounds (so_far ++ (built_of task, end) ∷ [])))
    (answer_with builds (body.Ran so_far))

-- BEGIN: a build begins, and is held
abbrev pub begin : List Task → Plan CommandOutcome
begin builds = begin_next (λ task. answer_with (builds ++ task ∷ []) (body.Build (built_of task))) (answer_with builds body.Idle)

-- SWITCH: the oldest build that is held ends, its unit being ready
abbrev pub switch : Limits → ℕ → List Task → Plan CommandOutcome
switch limits who [] = answer_with [] body.Nothing
switch limits who (task ∷ builds) = finish true limits who task (λ end. answer_with builds (body.Ended end))

-- CANCEL: the oldest build that is held ends without its unit
abbrev pub cancel : List Task → Plan CommandOutcome
cancel [] = answer_with [] body.Nothing
cancel (task ∷ builds) = Turn true (λ at. Some (what.Cancel task.id false)) (λ at. answer_with builds (body.Ended (ending.Dropped task.id)))

-- TRICKLE: so many builds more may be begun ahead of the threshold
abbrev pub trickle : ℕ → List Task → ℕ → Plan CommandOutcome
trickle who builds count =
    Turn true (λ at. Some (what.Trickle count)) (λ at. answer_with builds (body.Trickle (credits (behind at who (what.Trickle count)))))

-- EVICT of an extent of a table, unless it has no unit
abbrev pub evicted : ℕ → List Task → ℕ → ℕ → History → Option Why → Plan CommandOutcome
evicted who builds table extent at None = answer_with builds (body.Evicted table extent (used (behind at who (what.Evict table extent))))
evicted who builds table extent at (Some cause) = answer_with builds (body.Error (fault_of (aim.Evicting table extent) cause))

abbrev pub evict : ℕ → List Task → ℕ → ℕ → Plan CommandOutcome
evict who builds table extent =
    Turn true (λ at. unless_refused (evict_refusal at table extent) (what.Evict table extent))
    (λ at. evicted who builds table extent at (evict_refusal at table extent))

-- what PURGE answers, by the history at its entry: the horizon that it set, and how many versions are kept
abbrev pub purged : ℕ → History → Body
purged who at = body.Purged (horizon (behind at who what.Purge)) (kept (behind at who what.Purge))

-- PURGE: the versions of rows that nobody may ask for any more are let go
abbrev pub purge : ℕ → List Task → Plan CommandOutcome
purge who builds = Turn true (λ at. Some what.Purge) (λ at. answer_with builds (purged who at))

-- a line that does nothing: a statement of a session is not the background's
abbrev pub nothing : List Task → Plan CommandOutcome
nothing builds = answer_with builds body.Nothing

-- EVICT, once the table's name was looked up
abbrev pub evict_found : ℕ → List Task → Result Resolved NameFault → Plan CommandOutcome
evict_found who builds (Ok (resolved.Evict table extent)) = evict who builds table extent
evict_found who builds (Ok other) = nothing builds
evict_found who builds (Err fault) = answer_with builds (body.Error (name_fault fault))

-- the plan of a statement of the background, of this number, that holds these builds
abbrev pub command_plan : Limits → ℕ → ℕ → List Task → Stmt → Plan CommandOutcome
command_plan limits who rounds builds stmt.Run = run limits who builds rounds []
command_plan limits who rounds builds stmt.Begin = begin builds
command_plan limits who rounds builds stmt.Switch = switch limits who builds
command_plan limits who rounds builds stmt.Cancel = cancel builds
command_plan limits who rounds builds (stmt.Trickle count) = trickle who builds count
command_plan limits who rounds builds (stmt.Evict name extent) =
    Turn false (λ at. None) (λ at. evict_found who builds (resolution (tables at) (stmt.Evict name extent)))
command_plan limits who rounds builds stmt.Purge = purge who builds
command_plan limits who rounds builds statement = nothing builds

-- ---- out of memory

-- the build is one of these
abbrev pub is_among : List Task → ℕ → Bool
is_among builds id = list_any (λ (task : Task). task.id == id) builds

-- a build that this number began in the store and that is none of those it holds: its line neither holds nor ended it
abbrev pub stray : History → ℕ → List Task → Option Held
stray at who builds = find (λ held. (held.who == who) && not (is_among builds held.task.id)) (held at)

-- a line that ran out of memory after k entries: a build that it began, and neither holds nor ended, is cancelled. Those that
-- were held are held on
abbrev pub command_amends : ℕ → List Task → ℕ → Plan CommandOutcome
command_amends who builds k =
    Turn false (λ at. option_map (λ (held : Held). what.Cancel held.task.id false) (stray at who builds))
    (λ at. End (Answered (memory_reply k) builds))

-- ---- the end of a script's prelude

-- all builds that are held end without their units, the oldest first
abbrev pub drop_all : List Task → Plan (Unit {0})
drop_all [] = End tt
drop_all (task ∷ builds) = Turn false (λ at. Some (what.Cancel task.id false)) (λ at. drop_all builds)
