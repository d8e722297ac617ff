use Rattle.im_directory.specs.inner.Listed.{RestsSome}
use Rattle.im_directory.proofs.RestLemmas.{count_waiting}
use Rattle.im_directory.proofs.shelves.Shelves.rest_table.Given as goal

-- some extents wait no more
abbrev pub invariant-loop-extent : goal.invariant-loop-extent
invariant-loop-extent g l = RestsSome l.fn.self l.self

-- the extents of the table that wait are fewer
abbrev pub decreases-loop-extent : goal.decreases-loop-extent
decreases-loop-extent g l = count_waiting l.self l.table
