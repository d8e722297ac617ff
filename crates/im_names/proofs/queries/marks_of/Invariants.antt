use Rattle.std.proofs.Common.{◌≡◌, map}
use Rattle.std.specs.List.{range_with_len}
use Rattle.im_syntax.specs.BoundQuery.{is_listed}
use Rattle.im_names.proofs.queries.marks_of.Given as goal

abbrev pub invariant-loop-column : goal.invariant-loop-column
invariant-loop-column l = l.marks.items ≡ map (is_listed l.groups) (range_with_len 0 l.column)
