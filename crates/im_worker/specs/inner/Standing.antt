-- The builds of the background in a history, on the way through a line.
use Rattle.std.specs.Prelude.{◌≡◌, ℕ, List, ◌++◌}
use Rattle.std.specs.List.{AllByRecursion}
use Rattle.im_history.specs.declared.task.Task.{Task}
use Rattle.im_history.specs.History.{History}
use Rattle.im_history.specs.Units.{IsOwn, task_content}
use Rattle.im_worker.specs.Background.{Ready, builds_of, tasks_of}

-- the builds of a number that are not ended are those that it holds, and behind them these more. Each that it holds is its own, and
-- the unit of each is what it is to be
pub record Stands (who : ℕ) (builds : List Ready) (more : List Task) (history : History) : Type 0 where
  pub tasks : builds_of history who ≡ tasks_of builds ++ more
  pub own : AllByRecursion (λ ready. IsOwn history who ready.task) builds
  pub ready : AllByRecursion (λ ready. ready.content ≡ task_content history ready.task) builds
