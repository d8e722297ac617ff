use Rattle.im_blocks.proofs.HandingLemmas.{Handed}
use Rattle.im_blocks.proofs.version_table.VersionTable.apply.Given as goal

-- what was taken from the end is put in
abbrev pub invariant-loop-last : goal.invariant-loop-last
invariant-loop-last l = Handed l.fn.self l.self l.scn l.left.items l.fn.ready.items

abbrev pub decreases-loop-last : goal.decreases-loop-last
decreases-loop-last l = goal.left-loop-last l
