use Rattle.std.proofs.Common.{arith}
use Rattle.im_scan.proofs.LeftLemmas.{spot-within}
use Rattle.im_scan.proofs.left.hide.Goals as goal

pub clear-requires : goal.clear-requires
clear-requires c =
    let inside = spot-within c.args.unit.now c.args.rid c.in-Some.spot c.in-Some.ensures in
    omega (arith, inside, c.requires)
