use Rattle.std.proofs.Common.{arith}
use Rattle.check_store.proofs.UnderWayLemmas.{unit-whole}
use Rattle.check_store.proofs.builds.unit_of.Goals as goal

pub returns : goal.returns
returns c =
    let whole = unit-whole c.args.task.now c.args.fetched c.in_ok-rows.rows.items c.in_ok-rows.ensures.rows c.if-task-ne0.false c.if-task-ne1.false
    (let a = c.len-else-len-gt4.ensures in let b = c.if-len-task.false in omega (arith, a, b)) in
    let made = c.in_ok-new.ensures in
    let unit = c.in_ok-unit.ensures in
    let slice = c.as_slice.ensures.value in
    cc
