use Rattle.std.proofs.Common.{◌≡◌, ◌+◌, ◌++◌}
use Rattle.im_script.specs.inner.Putting.{inserts_text}
use Rattle.im_script.proofs.generated.put_inserts.Given as goal

abbrev pub invariant-loop-left : goal.invariant-loop-left
invariant-loop-left l =
    (l.script.items ++ inserts_text l.seed l.next l.left ≡ l.fn.script.items ++ inserts_text l.seed l.fn.first l.fn.count)
    × (l.next + l.left ≡ l.fn.first + l.fn.count)

abbrev pub decreases-loop-left : goal.decreases-loop-left
decreases-loop-left l = l.left
