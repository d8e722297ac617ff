use Rattle.std.proofs.Common.{take}
use Rattle.std.specs.Prelude.{flat_map}
use Rattle.im_text.specs.Tasks.{task_records}
use Rattle.im_text.specs.inner.Pages.{Puts}
use Rattle.im_text.proofs.tasks.put_tasks.Given as goal

abbrev pub invariant-loop-built : goal.invariant-loop-built
invariant-loop-built l = Puts l.fn.page l.page (flat_map task_records (take l.built-index l.tasks))
