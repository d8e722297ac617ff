use Rattle.std.proofs.Common.{◌≡◌, ◌++◌}
use Rattle.im_names.specs.Rows.{row_of}
use Rattle.im_names.specs.inner.TargetNumbers.{numbers_of}
use Rattle.im_names.proofs.rows.push_row.Given as goal

-- the values of the columns so far stand behind those before
abbrev pub invariant-loop-column : goal.invariant-loop-column
invariant-loop-column l = l.values.items ≡ l.fn.values.items ++ row_of l.column l.defaults (numbers_of l.targets) l.tuple
