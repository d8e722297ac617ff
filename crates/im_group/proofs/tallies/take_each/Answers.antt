use Rattle.std.proofs.Common.{arith}
use Rattle.im_group.proofs.TallyLists.{taking_all}
use Rattle.im_group.proofs.tallies.take_each.Goals as goal

pub returns : goal.returns
returns c =
    let size = c.loop-i.invariant.size in
    let end = c.min-i-end.ensures in
    let len = c.len.ensures in
    let past = c.loop-i-test.false in
    taking_all c.args.asked.now c.args.sums.now.items c.args.row.now c.loop-i.i c.loop-i.sums.items c.loop-i.invariant (omega arith)
