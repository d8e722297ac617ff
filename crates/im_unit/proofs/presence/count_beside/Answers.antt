use Rattle.std.proofs.Common.{◌<◌, ◌∙◌, true, false, length, get_or, arith}
use Rattle.im_unit.proofs.ReadLemmas.{bits-more, flag-set, flag-clear}
use Rattle.im_unit.proofs.presence.count_beside.Goals as goal
use Rattle.im_unit.proofs.presence.count_beside.Goals.{then-bits-i-ne0, else-bits-i-ne0}

pub loop-i-preserved : goal.loop-i-preserved
loop-i-preserved c =
    let inside : c.loop-i.i < length c.args.bits.now = omega (arith, c.loop-i-test.true, c.requires.within) in
    let more = bits-more c.args.bits.now c.loop-i.i c.loop-i.count inside c.loop-i.invariant.count in
    let bit = get_or c.args.bits.now c.loop-i.i 0 in
    elim c.if-bits-i-ne0.branch [
      | then-bits-i-ne0 w ↦ record {
        count = w.count-is ∙ more true (flag-set bit w.if-bits-i-ne0.true);
        most = omega (arith, w.count-is, c.loop-i.invariant.most);
      }
      | else-bits-i-ne0 w ↦ record {
        count = w.count-is ∙ more false (flag-clear bit w.if-bits-i-ne0.false);
        most = omega (arith, w.count-is, c.loop-i.invariant.most);
      }
    ]
