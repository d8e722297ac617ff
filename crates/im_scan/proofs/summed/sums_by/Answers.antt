use Rattle.std.proofs.Common.{◌∙◌, sym}
use Rattle.std.specs.Int.{w128}
use Rattle.std.proofs.lemmas.Int.{to_z-of_z}
use Rattle.im_scan.proofs.SummedLemmas.{summary-as, some-inj}
use Rattle.im_scan.proofs.summed.sums_by.Goals as goal

pub returns : goal.returns
returns c found is vs tallies =
    sym (some-inj is)
    ∙ summary-as c.args.asked vs c.args.tally _ _ _ _ tallies
    (to_z-of_z w128 c.sum_in-sum.result (record { sfits = c.sum_in-sum.type_inv }) ∙ c.sum_in-sum.ensures) c.in_ok-least.ensures
    c.in_ok-greatest.ensures c.of.ensures
