use Rattle.std.proofs.lemmas.Result.{IfOk-weaker}
use Rattle.im_scan.specs.inner.Summed.{wants_ends}
use Rattle.im_scan.proofs.SummedLemmas.{tally-for}
use Rattle.im_scan.proofs.summed_run.run_sum.Goals as goal

pub returns : goal.returns
returns c = IfOk-weaker c.sums_by.result _ _ (λ found some sums is. some sums is _ (tally-for (wants_ends c.args.asked) _ _ c.tally_rows.ensures)) c.sums_by.ensures
