-- The number of rounds that a line of the background is played in.
use Rattle.std.specs.Prelude.{◌≡◌, ℕ, ◌≤◌, Bool, true, false, List, Option}
use Rattle.im_history.specs.declared.limits.Limits.{Limits}
use Rattle.im_history.specs.declared.task.Task.{Task}
use Rattle.im_history.specs.History.{History}
use Rattle.im_plan.specs.Alone.{Played, may_lack, play_or_cut}
use Rattle.im_plan.specs.Goes.{PlayedLine, Others}
use Rattle.im_replies.specs.declared.reply.Reply.{Reply}
use Rattle.im_syntax.specs.declared.statement.Stmt.{Stmt}
use Rattle.im_statements.specs.Background.{Answered, OutOfRounds, CommandOutcome, command_amends, command_plan}

-- a line has come to its end in its rounds
abbrev pub is_answered : CommandOutcome → Bool
is_answered (Answered reply builds) = true
is_answered OutOfRounds = false

-- a line with nobody else there: a statement of a number that holds these builds, behind this history, out of memory after so many
-- entries of it or never
pub record Order : Type 0 where
  pub limits : Limits
  pub who : ℕ
  pub builds : List Task
  pub statement : Stmt
  pub lacked : Option ℕ
  pub old : History

-- what comes of it in so many rounds
abbrev pub played_in : ℕ → Order → Played CommandOutcome
played_in rounds order =
    play_or_cut order.who (command_amends order.who order.builds) order.lacked order.old
    (command_plan order.limits order.who rounds order.builds order.statement)

-- so many rounds are enough for it: it comes to its end in them, and memory may run out where it does
pub record IsEnough (order : Order) (rounds : ℕ) : Type 0 where
  pub lawful : may_lack order.who order.old (command_plan order.limits order.who rounds order.builds order.statement) order.lacked ≡ true
  pub answered : is_answered (played_in rounds order).result ≡ true

-- a line comes to the same result and the same history in any two numbers of rounds that are enough for it
abbrev pub PlayTheSame : Type 0
PlayTheSame = (order : Order) (first second : ℕ) → IsEnough order first → IsEnough order second → played_in first order ≡ played_in second order

-- more rounds than are enough are enough
abbrev pub StayEnough : Type 0
StayEnough = (order : Order) (fewer more : ℕ) → fewer ≤ more → IsEnough order fewer → IsEnough order more

-- whatever others do meanwhile, a line that may be answered so in some rounds may be answered so in more, out of memory or not
abbrev pub StayAmongOthers : Type 0
StayAmongOthers =
    (mine : ℕ → Bool) (limits : Limits) (who : ℕ) (builds after : List Task) (statement : Stmt) (fewer more : ℕ) (old : History) (reply : Reply)
    (new : History) → fewer ≤ more
    → PlayedLine (Others mine) who (command_amends who builds) old (command_plan limits who fewer builds statement) (Answered reply after) new
    → PlayedLine (Others mine) who (command_amends who builds) old (command_plan limits who more builds statement) (Answered reply after) new
