use Rattle.im_directory.proofs.DropLemmas.{Dropping}
use Rattle.im_directory.proofs.directory.Directory.drop_table.Given as goal

-- the extents before this one are out of the column store
abbrev pub invariant-loop-extent : goal.invariant-loop-extent
invariant-loop-extent g l = Dropping l.fn.self l.self l.place l.table l.extent
