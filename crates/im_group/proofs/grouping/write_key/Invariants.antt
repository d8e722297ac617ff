use Rattle.std.proofs.Common.{◌≡◌, ◌++◌, drop}
use Rattle.im_group.specs.Partials.{key_of}
use Rattle.im_group.proofs.grouping.write_key.Given as goal

abbrev pub invariant-loop-column : goal.invariant-loop-column
invariant-loop-column l = l.key.items ++ key_of (drop l.column-index l.columns) l.row ≡ key_of l.columns l.row
