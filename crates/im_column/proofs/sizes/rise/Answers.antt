use Rattle.std.proofs.Common.{◌≤◌, length, arith}
use Rattle.im_codes.specs.Dictionary.{lent}
use Rattle.im_column.proofs.LendLemmas.{length-lent}
use Rattle.im_column.proofs.SizeLemmas.{rising-more, rising-all}
use Rattle.im_column.proofs.sizes.rise.Goals as goal

pub loop-i-preserved : goal.loop-i-preserved
loop-i-preserved c = rising-more (lent c.args.values.now) c.loop-i.i c.if-not-follows.ensures c.loop-i.invariant

pub returns : goal.returns
returns c =
    let past : length (lent c.args.values.now) ≤ c.loop-i.i = omega (arith, length-lent c.args.values.now) in
    rising-all (lent c.args.values.now) c.loop-i.i past c.loop-i.invariant
