use Rattle.std.proofs.Common.{◌≡◌, ◌≤◌, ap, arith, ◌∙◌}
use Rattle.im_script.specs.inner.Putting.{orders_text}
use Rattle.im_script.proofs.Generating.{orders-next, orders-none, puts-next, puts-all}
use Rattle.im_script.proofs.generated.put_orders.Goals as goal

pub loop-left-preserved : goal.loop-left-preserved
loop-left-preserved c =
    let some : 1 ≤ c.loop-left.left = omega (arith, c.loop-left-test.true) in
    let next = orders-next c.args.seed c.loop-left.next c.loop-left.left c.next_of-orders.result some c.next_of-orders.ensures in
    let text = puts-next c.loop-left.script.items _ _ _ _ _ c.loop-left.invariant.0 next c.in_ok-put_transaction.ensures in
    let within = c.loop-left.invariant.1 in
    (text, omega (arith, within, c.next_of-orders.ensures))

pub returns : goal.returns
returns c =
    let none = ap (orders_text c.args.seed c.loop-left.next) (let e : c.loop-left.left ≡ 0 = omega (arith, c.loop-left-test.false) in e) in
    puts-all c.loop-left.script.items _ _ c.loop-left.invariant.0 (none ∙ orders-none c.args.seed c.loop-left.next)
