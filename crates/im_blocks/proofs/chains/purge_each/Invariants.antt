use Rattle.im_blocks.proofs.LettingLemmas.{ArePurgedTo}
use Rattle.im_blocks.proofs.chains.purge_each.Given as goal

-- the chains so far are purged
abbrev pub invariant-loop-touched : goal.invariant-loop-touched
invariant-loop-touched l = ArePurgedTo l.fn.chains.items l.touched-items l.floor l.touched-index
