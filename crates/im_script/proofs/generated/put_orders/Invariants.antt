use Rattle.std.proofs.Common.{◌≡◌, ◌+◌, ◌++◌}
use Rattle.im_script.specs.inner.Putting.{orders_text}
use Rattle.im_script.proofs.generated.put_orders.Given as goal

abbrev pub invariant-loop-left : goal.invariant-loop-left
invariant-loop-left l =
    (l.script.items ++ orders_text l.seed l.next l.left ≡ l.fn.script.items ++ orders_text l.seed 1 l.fn.rows)
    × (l.next + l.left ≡ 1 + l.fn.rows)

abbrev pub decreases-loop-left : goal.decreases-loop-left
decreases-loop-left l = l.left
