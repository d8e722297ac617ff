use Rattle.im_group.proofs.TallyLists.{Taking}
use Rattle.im_group.proofs.tallies.take_each.Given as goal

abbrev pub invariant-loop-i : goal.invariant-loop-i
invariant-loop-i l = Taking l.asked l.fn.sums.items l.row l.i l.sums.items
