use Rattle.std.proofs.Common.{arith}
use Rattle.im_unit.specs.Rebuilt.{rows_with}
use Rattle.im_unit.specs.inner.Planned.{stock}
use Rattle.im_unit.proofs.PlanLemmas.{planned-long}
use Rattle.im_unit.proofs.RebuiltLemmas.{length-with}
use Rattle.im_unit.proofs.planning.planned.Goals as goal

pub returns-clause-few : goal.returns-clause-few
returns-clause-few c =
    let old = c.args.old.now in
    let fetched = c.args.fetched.now in
    let long = planned-long (stock old.rows fetched) c.put_fetched.new.slots.items (rows_with fetched old.first old.rows) c.put_fetched.ensures in
    omega (arith, long, length-with fetched old.first old.rows, c.len.ensures.len, c.len.ensures.few)
