use Rattle.std.proofs.Common.{arith}
use Rattle.im_scan.proofs.BesideLemmas.{at-within, passed-more, pushed-again}
use Rattle.im_scan.proofs.beside.put_below.Goals as goal

pub loop-at-preserved : goal.loop-at-preserved
loop-at-preserved c =
    let fetched = c.args.fetched.now in
    let at = c.loop-at.at in
    let row = c.index-fetched-at-in-loop-at.result in
    let rows = c.loop-at.rows.items in
    let more = c.push.new.self.items in
    record {
      within = omega (arith, c.loop-at-test.true);
      whole =
          passed-more fetched c.args.from at row c.args.rows.now.items rows more c.loop-at-test.true
          (at-within fetched at row c.loop-at-test.true c.index-fetched-at-in-loop-at.is)
          (pushed-again rows more row c.lent_again.result c.in_ok-push.ensures.items c.lent_again.ensures) c.loop-at.invariant.whole;
    }
