use Rattle.std.proofs.Common.{subst, sym}
use Rattle.std.proofs.lemmas.Result.{IfOk-weaker}
use Rattle.im_codepred.specs.Tallies.{IsTallyFor}
use Rattle.im_scan.specs.inner.Summed.{wants_ends}
use Rattle.im_scan.proofs.by_code.sum_at.Goals as goal

pub returns : goal.returns
returns c =
    IfOk-weaker c.sums_by.result _ _
    (λ found some sums is vs come.
    some sums is vs (subst (IsTallyFor (wants_ends c.args.asked) vs) (sym c.index-tallies-place.is) (come c.index-tallies-place.result)))
    c.sums_by.ensures
