use Rattle.std.proofs.Common.{◌≡◌}
use Rattle.std.specs.List.{position_from}
use Rattle.im_names.specs.Lookups.{is_called}
use Rattle.im_names.proofs.FaultLemmas.{From}
use Rattle.im_names.proofs.columns.column_called.Given as goal

abbrev pub invariant-loop-column : goal.invariant-loop-column
invariant-loop-column l = (l.number ≡ l.column-index) × From (position_from (is_called l.name)) l.column-items l.column-index
