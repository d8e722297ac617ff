use Rattle.std.proofs.Common.{arith}
use Rattle.im_unit.proofs.BuildLemmas.{wide-at}
use Rattle.im_unit.proofs.building.numbers_in.Goals as goal

pub number_in-requires : goal.number_in-requires
number_in-requires c =
    let wide = wide-at c.args.width c.args.defaults.now c.args.rows.now c.loop-i.i c.index-rows-i.result c.requires.rows c.loop-i-test.true c.index-rows-i.is in
    omega (arith, wide, c.requires.inside)
