use Rattle.std.proofs.Common.{◌≡◌, ◌++◌}
use Rattle.im_script.specs.inner.Putting.{further_rows}
use Rattle.im_script.proofs.generated.put_further_rows.Given as goal

abbrev pub invariant-loop-place : goal.invariant-loop-place
invariant-loop-place l = l.script.items ≡ l.fn.script.items ++ further_rows l.seed l.first l.place
