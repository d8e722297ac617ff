-- What callers know of what a build reads.
use Rattle.std.proofs.Common.{◌≡◌, ℕ, ◌≤◌, Some}
use Rattle.im_history.specs.declared.task.Task.{Task}
use Rattle.im_history.specs.History.{History}
use Rattle.im_core.specs.Tasks.{MendsTheLentUnit, task_serving}
use Rattle.im_core.proofs.PinLemmas.{mended-rows, serving-is}

-- the unit that a build is lent is not newer than the build
pub lent-old : (history : History) (task : Task) (at : ℕ) → task_serving history task ≡ Some at → at ≤ task.scn
lent-old history task at is = (serving-is history task at is).old

-- with the rows that are fetched in their places, it has the rows that the build's unit is to hold
pub lent-mended : MendsTheLentUnit
lent-mended = mended-rows
