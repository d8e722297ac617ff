use Rattle.im_group.specs.inner.Chosen.{at_bits, share_of, with_rows, IsLeft}
use Rattle.im_group.specs.inner.Holding.{own}
use Rattle.im_group.proofs.chosen.take_bits.Given as goal

-- the rows at the bits that are left come to the whole
abbrev pub invariant-loop-rest : goal.invariant-loop-rest
invariant-loop-rest l =
    IsLeft l.seen.columns.now l.seen.asked.now (share_of l.rows l.first) l.rest (own l.groups.entries)
    (with_rows l.seen.columns.now l.seen.asked.now (own l.fn.groups.entries) (at_bits l.word (share_of l.rows l.first)))

abbrev pub decreases-loop-rest : goal.decreases-loop-rest
decreases-loop-rest l = l.rest
