use Rattle.std.proofs.Common.{◌∙◌, sym}
use Rattle.im_scan.proofs.SummedLemmas.{some-inj, unit-tallied}
use Rattle.im_scan.proofs.summed.together.Goals as goal

pub returns : goal.returns
returns c found is = record {
  gives = λ rows same.
      sym (some-inj is)
      ∙ c.in_ok-part.ensures rows
      (unit-tallied c.args.asking.now c.args.unit.now c.args.spots.now rows c.count.result c.asked.result.now c.in-Some.sums.items c.requires.spots
      same c.count.ensures c.asked.ensures (c.in_ok-sums.ensures c.in-Some.sums c.in-Some.is));
}
