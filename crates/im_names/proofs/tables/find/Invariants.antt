use Rattle.std.specs.List.{position_from}
use Rattle.im_history.specs.Tables.{is_named}
use Rattle.im_names.specs.Lookups.{table_called}
use Rattle.im_names.proofs.FaultLemmas.{From}
use Rattle.im_names.proofs.tables.find.Given as goal

abbrev pub invariant-loop-i : goal.invariant-loop-i
invariant-loop-i l = From (λ i tables. table_called tables l.name) l.tables l.i × From (position_from (is_named l.name)) l.tables l.i
