use Rattle.std.proofs.Common.{get_or, arith, ◌∙◌}
use Rattle.std.proofs.lemmas.List.{get_or_default}
use Rattle.im_unit.proofs.PlanLemmas.{present-found}
use Rattle.im_unit.proofs.rebuilding.fresh_rows.Goals as goal

pub loop-i-preserved : goal.loop-i-preserved
loop-i-preserved c =
    let fetched = c.args.fetched.now in
    let i = c.loop-i.i in
    let found = get_or fetched i c.index-fetched-i.result in
    record {
      rows = present-found fetched i found c.loop-i.fresh.items c.put_fresh.new.fresh.items c.loop-i-test.true
          (get_or_default fetched i c.index-fetched-i.result found c.loop-i-test.true) c.loop-i.invariant.rows c.put_fresh.ensures.rows;
      few = omega (arith, c.put_fresh.ensures.few, c.loop-i.invariant.few);
      room = c.put_fresh.ensures.room ∙ c.loop-i.invariant.room;
    }
