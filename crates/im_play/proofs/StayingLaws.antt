-- No line of the background makes anybody leave: none of its turns adds a Leave.
use Rattle.std.proofs.Common.{◌≡◌, ℕ, zero, suc, Bool, true, false, List, [], ◌∷◌, ◌++◌, Option, Some, None, Result, Ok, Err, refl}
use Rattle.std.specs.Prelude.{⊤}
use Rattle.std.specs.Option.{option_map}
use Rattle.im_history.specs.declared.entry.What.{What}
use Rattle.im_history.specs.declared.entry.What.TheVariants as what
use Rattle.im_history.specs.declared.limits.Limits.{Limits}
use Rattle.im_history.specs.declared.refused.Why.{Why}
use Rattle.im_history.specs.declared.task.Choice.{Choice}
use Rattle.im_history.specs.declared.task.Held.{Held}
use Rattle.im_history.specs.declared.task.Task.{Task}
use Rattle.im_history.specs.History.{History}
use Rattle.im_history.specs.Leaves.{is_leave}
use Rattle.im_history.specs.Queue.{build_of, next, task_of}
use Rattle.im_history.specs.Refusals.{evict_refusal}
use Rattle.im_history.specs.Tables.{tables}
use Rattle.im_history.specs.Units.{held_at, killed_of}
use Rattle.im_names.specs.declared.fault.NameFault.{NameFault}
use Rattle.im_names.specs.declared.resolved.Resolved.{Resolved}
use Rattle.im_names.specs.declared.resolved.Resolved.TheVariants as resolved
use Rattle.im_names.specs.Statements.{resolution}
use Rattle.im_plan.specs.Plan.{Plan}
use Rattle.im_play.specs.Leaving.{NobodyLeavesBehind, NobodyLeavesDropped}
use Rattle.im_replies.specs.declared.body.Body.TheVariants as body
use Rattle.im_replies.specs.declared.task.Built.{Built}
use Rattle.im_replies.specs.declared.task.Ending.{Ending}
use Rattle.im_syntax.specs.declared.statement.Stmt.{Stmt}
use Rattle.im_syntax.specs.declared.statement.Stmt.TheVariants as stmt
use Rattle.im_statements.specs.Background as command
use Rattle.im_statements.specs.Background.{answer_with, begin_next, built_of, cancel, command_amends, command_plan, drop_all, end_by, ending_by, evict_found, evicted, finish, fits_area, run, stray, switch, with_choice}
use Rattle.im_statements.specs.Turns.{unless_refused}
use Rattle.im_statements.proofs.LeavingLaws.{IsNoLeave, AddsNoLeave, goes-left, line-left}

keeps-unless : (o : Option Why) (entry : What) → is_leave entry ≡ false → IsNoLeave (unless_refused o entry)
keeps-unless None entry is = is
keeps-unless (Some cause) entry is = tt

-- ---- statements of the background

keeps-begin : (o : Option Choice) (at : History) → IsNoLeave (option_map (build_of at) o)
keeps-begin None at = tt
keeps-begin (Some choice) at = refl

keeps-choice : (on : Task → Plan command.CommandOutcome) (idle : Plan command.CommandOutcome) (at : History) (o : Option Choice)
    → ((task : Task) → AddsNoLeave (on task)) → AddsNoLeave idle → AddsNoLeave (with_choice on idle at o)
keeps-choice on idle at None each rest = rest
keeps-choice on idle at (Some choice) each rest = each (task_of at choice)

keeps-next : (on : Task → Plan command.CommandOutcome) (idle : Plan command.CommandOutcome) → ((task : Task) → AddsNoLeave (on task)) → AddsNoLeave idle
    → AddsNoLeave (begin_next on idle)
keeps-next on idle each rest = λ at. (keeps-begin (next at) at, keeps-choice on idle at (next at) each rest)

keeps-end : (id : ℕ) (killed : Option ℕ) (fits_area : Bool) → is_leave (end_by id killed fits_area) ≡ false
keeps-end id (Some place) fits_area = refl
keeps-end id None true = refl
keeps-end id None false = refl

keeps-finish : (decides : Bool) (limits : Limits) (who : ℕ) (task : Task) (on : Ending → Plan command.CommandOutcome)
    → ((end : Ending) → AddsNoLeave (on end)) → AddsNoLeave (finish decides limits who task on)
keeps-finish decides limits who task on each = λ at. (
  keeps-end task.id (killed_of (held_at at task.id)) (fits_area limits at task),
  each (ending_by limits who at task (killed_of (held_at at task.id)) (fits_area limits at task)),
)

keeps-run : (limits : Limits) (who : ℕ) (builds : List Task) (rounds : ℕ) (so_far : List (Built × Ending))
    → AddsNoLeave (run limits who builds rounds so_far)
keeps-run limits who builds zero so_far = tt
keeps-run limits who builds (suc rounds) so_far =
    keeps-next (λ task. finish false limits who task (on task)) (answer_with builds (body.Ran so_far))
    (λ task. keeps-finish false limits who task (on task) (λ end. keeps-run limits who builds rounds (so_far ++ (built_of task, end) ∷ []))) tt
  where
    on : Task → Ending → Plan command.CommandOutcome
    on task end = run limits who builds rounds (so_far ++ (built_of task, end) ∷ [])

keeps-switch : (limits : Limits) (who : ℕ) (builds : List Task) → AddsNoLeave (switch limits who builds)
keeps-switch limits who [] = tt
keeps-switch limits who (task ∷ builds) = keeps-finish true limits who task (λ end. answer_with builds (body.Ended end)) (λ end. tt)

keeps-cancel : (builds : List Task) → AddsNoLeave (cancel builds)
keeps-cancel [] = tt
keeps-cancel (task ∷ builds) = λ at. (refl, tt)

keeps-evicted : (who : ℕ) (builds : List Task) (table extent : ℕ) (at : History) (o : Option Why) → AddsNoLeave (evicted who builds table extent at o)
keeps-evicted who builds table extent at None = tt
keeps-evicted who builds table extent at (Some cause) = tt

keeps-evict : (who : ℕ) (builds : List Task) (r : Result Resolved NameFault) → AddsNoLeave (evict_found who builds r)
keeps-evict who builds (Ok (resolved.Evict table extent)) = λ at. (
  keeps-unless (evict_refusal at table extent) (what.Evict table extent) refl,
  keeps-evicted who builds table extent at (evict_refusal at table extent),
)
keeps-evict who builds (Ok _) = tt
keeps-evict who builds (Err fault) = tt

keeps-command : (limits : Limits) (who rounds : ℕ) (builds : List Task) (s : Stmt) → AddsNoLeave (command_plan limits who rounds builds s)
keeps-command limits who rounds builds stmt.Run = keeps-run limits who builds rounds []
keeps-command limits who rounds builds stmt.Begin =
    keeps-next (λ task. answer_with (builds ++ task ∷ []) (body.Build (built_of task))) (answer_with builds body.Idle) (λ task. tt) tt
keeps-command limits who rounds builds stmt.Switch = keeps-switch limits who builds
keeps-command limits who rounds builds stmt.Cancel = keeps-cancel builds
keeps-command limits who rounds builds (stmt.Trickle count) = λ at. (refl, tt)
keeps-command limits who rounds builds (stmt.Evict name extent) = λ at. (tt, keeps-evict who builds (resolution (tables at) (stmt.Evict name extent)))
keeps-command limits who rounds builds stmt.Purge = λ at. (refl, tt)
keeps-command limits who rounds builds _ = tt

keeps-stray : (who : ℕ) (o : Option Held) → IsNoLeave (option_map (λ (held : Held). what.Cancel held.task.id false) o)
keeps-stray who None = tt
keeps-stray who (Some held) = refl

pub nobody-leaves-behind : NobodyLeavesBehind
nobody-leaves-behind mine limits who number rounds builds s old outcome new is_mine line =
    line-left mine number is_mine who (command_amends who builds) old (command_plan limits who rounds builds s) outcome new
    (λ k at. (keeps-stray who (stray at who builds), tt)) (keeps-command limits who rounds builds s) line

keeps-drop : (builds : List Task) → AddsNoLeave (drop_all builds)
keeps-drop [] = tt
keeps-drop (task ∷ builds) = λ at. (refl, keeps-drop builds)

pub nobody-leaves-dropped : NobodyLeavesDropped
nobody-leaves-dropped mine who number builds old new is_mine goes =
    goes-left mine number is_mine who old (drop_all builds) tt new (keeps-drop builds) goes
