-- How many rows the builds of a line may read from the blocks.
use Rattle.std.specs.Prelude.{◌≡◌, ℕ, ◌+◌, ◌≤◌, List, [], ◌∷◌, ◌++◌, length, Some}
use Rattle.im_core.specs.Tasks.{task_fetched}
use Rattle.im_history.specs.declared.task.Choice.{Choice}
use Rattle.im_history.specs.History.{History, behind}
use Rattle.im_history.specs.Queue.{build_of, next, task_of}

-- a build: the history that its beginning came behind, which build it was, and the history at which it was read what its unit is made of
pub record Start : Type 0 where
  pub at : History
  pub choice : Choice
  pub read : History

-- how many rows were read then: those that were stale beside the unit that it was lent, or without one all of its extent that were given
-- when it began
abbrev pub rows_of : Start → ℕ
rows_of start = length (task_fetched start.read (task_of start.at start.choice))

-- and of several builds together
abbrev pub rows_of_all : List Start → ℕ
rows_of_all [] = 0
rows_of_all (start ∷ starts) = rows_of start + rows_of_all starts

-- a history went on so
pub record WentOn (old new : History) : Type 0 where
  pub more : History
  pub is : new ≡ old ++ more

-- builds that this number began one after the other while a history went on, each being the one that came next, and each being read
-- behind its beginning and before the next began
abbrev pub AreBegun : ℕ → History → List Start → History → Type 0
AreBegun who old [] new = WentOn old new
AreBegun who old (start ∷ starts) new =
    WentOn old start.at × (next start.at ≡ Some start.choice)
    × WentOn (behind start.at who (build_of start.at start.choice)) start.read
    × AreBegun who start.read starts new

-- the steps of a line: of each build that it began each row that was read is one at most, and there are no others
pub record IsCounted (who before after : ℕ) (old new : History) : Type 0 where
  pub starts : List Start
  pub begun : AreBegun who old starts new
  pub few : after ≤ before + rows_of_all starts
