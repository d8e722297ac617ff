-- The background between its lines: the builds that it holds, what that agrees with, and what a line does to it.
use Rattle.std.specs.Prelude.{◌≡◌, ℕ, ◌==◌, List, [], map, filter}
use Rattle.std.specs.List.{AllByRecursion}
use Rattle.im_history.specs.declared.task.Held.{Held}
use Rattle.im_history.specs.declared.task.Task.{Task}
use Rattle.im_history.specs.History.{History}
use Rattle.im_history.specs.Units.{Content, IsOwn, held, task_content}
use Rattle.im_plan.specs.Goes.{Goes, PlayedLine, Others}
use Rattle.im_reach.specs.Sides.{Known, speaks}
use Rattle.im_replies.specs.declared.reply.Reply.{Reply}
use Rattle.im_statements.specs.Background.{Answered, command_amends, command_plan, drop_all}
use Rattle.im_syntax.specs.declared.statement.Stmt.{Stmt}

-- a build that is held, and what its unit holds
pub record Ready : Type 0 where
  pub task : Task
  pub content : Content

-- what the background keeps: its number, and the builds that it holds, the oldest first
pub record Kept : Type 0 where
  pub who : ℕ
  pub builds : List Ready

-- the builds that are held
abbrev pub tasks_of : List Ready → List Task
tasks_of builds = map (λ (ready : Ready). ready.task) builds

-- the builds that a number began and that are not ended, the oldest first
abbrev pub builds_of : History → ℕ → List Task
builds_of history who = map (λ (held : Held). held.task) (filter (λ (held : Held). held.who == who) (held history))

-- the background agrees with what is known: the builds that it keeps are those that it holds there, each of them is found there by its
-- number, and its unit is ready
pub record Agrees (kept : Kept) (now : Known) : Type 0 where
  pub builds : tasks_of kept.builds ≡ builds_of now.log kept.who
  pub own : AllByRecursion (λ ready. IsOwn now.log kept.who ready.task) kept.builds
  pub ready : AllByRecursion (λ ready. ready.content ≡ task_content now.log ready.task) kept.builds

-- the background played a line: it went by the plan of its statement, whatever others did meanwhile, or ran out of memory and was
-- amended; and it keeps the builds that are held then. RUN came to its end in so many rounds
pub record IsCommandPlayed (statement : Stmt) (before : Kept) (old : Known) (reply : Reply) (after : Kept) (new : Known) : Type 0 where
  pub same : after.who ≡ before.who
  pub known : new ≡ record old { log = new.log; misses = new.misses }
  pub rounds : ℕ
  pub line :
      PlayedLine (Others (speaks old.side)) before.who (command_amends before.who (tasks_of before.builds)) old.log
      (command_plan old.limits before.who rounds (tasks_of before.builds) statement) (Answered reply (tasks_of after.builds)) new.log

-- the background ended all builds that it held without their units, whatever others did meanwhile
pub record IsDropped (before : Kept) (old : Known) (after : Kept) (new : Known) : Type 0 where
  pub same : after.who ≡ before.who
  pub known : new ≡ record old { log = new.log }
  pub goes : Goes (Others (speaks old.side)) before.who old.log (drop_all (tasks_of before.builds)) tt new.log
  pub none : after.builds ≡ []
