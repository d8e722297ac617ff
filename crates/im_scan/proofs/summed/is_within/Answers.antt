use Rattle.std.proofs.Common.{arith}
use Rattle.std.specs.Int.{w128}
use Rattle.std.proofs.lemmas.Bool.{OnTrue_from}
use Rattle.std.proofs.lemmas.Bool.Decides.{nat_tests}
use Rattle.std.proofs.lemmas.Int.{to_z-of_z}
use Rattle.im_scan.proofs.SummedLemmas.{is-within}
use Rattle.im_scan.proofs.summed.is_within.Goals as goal

pub returns : goal.returns
returns c =
    OnTrue_from _ _
    (λ below.
    is-within c.args.values c.from.result c.unsigned_abs.result c.args.total _ (grind (arith, nat_tests, below)) c.from.ensures
    (to_z-of_z w128 c.args.total c.ranges.total) c.unsigned_abs.ensures.value)
