use Rattle.std.proofs.Common.{refl, subst}
use Rattle.im_scan.specs.inner.Summed.{TakesTogether}
use Rattle.im_scan.proofs.RunLemmas.{run-inside, run-tallied}
use Rattle.im_scan.proofs.summed_run.sums_together.Goals as goal

pub run_sums-requires-clause-inside : goal.run_sums-requires-clause-inside
run_sums-requires-clause-inside c = run-inside c.args.asking.now c.args.rows.now c.asked.result.now c.asked.ensures c.requires.fits

pub returns : goal.returns
returns c found is = record {
  together = subst TakesTogether c.bound.ensures c.if-not-takes_together.ensures;
  come = λ first.
      run-tallied c.args.asking.now first c.args.rows.now c.args.mask.now _ c.asked.result.now found.items c.requires.mask refl
      c.asked.ensures (c.in_ok-found.ensures found is);
}
