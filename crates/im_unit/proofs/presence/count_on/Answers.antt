use Rattle.std.proofs.Common.{◌<◌, ◌∙◌, true, false, length, sym, ap, arith}
use Rattle.std.specs.Prelude.{nat_lt}
use Rattle.im_unit.proofs.ReadLemmas.{bits-more, flag-set, flag-clear}
use Rattle.im_unit.proofs.presence.count_on.Goals as goal
use Rattle.im_unit.proofs.presence.count_on.Goals.{then-get-ne0, else-get-ne0}

pub loop-i-preserved : goal.loop-i-preserved
loop-i-preserved c =
    let inside : c.loop-i.i < length c.args.bits.now.codes = omega (arith, c.loop-i-test.true, c.requires.within) in
    let more = bits-more c.args.bits.now.codes c.loop-i.i c.loop-i.count inside c.loop-i.invariant.count in
    let is = ap (nat_lt 0) (sym c.get.ensures.code) in
    elim c.if-get-ne0.branch [
      | then-get-ne0 w ↦ record {
        count = w.count-is ∙ more true (is ∙ flag-set c.get.result w.if-get-ne0.true);
        most = omega (arith, w.count-is, c.loop-i.invariant.most);
      }
      | else-get-ne0 w ↦ record {
        count = w.count-is ∙ more false (is ∙ flag-clear c.get.result w.if-get-ne0.false);
        most = omega (arith, w.count-is, c.loop-i.invariant.most);
      }
    ]
