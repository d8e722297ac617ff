use Rattle.im_group.proofs.TallyLists.{Joining}
use Rattle.im_group.proofs.tallies.join_each.Given as goal

abbrev pub invariant-loop-other : goal.invariant-loop-other
invariant-loop-other l = Joining l.fn.sums.items l.yielded l.place l.sums.items
