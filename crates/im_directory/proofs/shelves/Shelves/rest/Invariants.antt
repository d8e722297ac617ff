use Rattle.im_directory.specs.inner.Listed.{RestsSome}
use Rattle.im_directory.proofs.RestLemmas.{NoneBefore}
use Rattle.im_directory.proofs.shelves.Shelves.rest.Given as goal

-- no extent of the tables before this one waits
abbrev pub invariant-loop-table : goal.invariant-loop-table
invariant-loop-table g l = record { some : RestsSome l.fn.self l.self; none : NoneBefore l.table l.self }
