use Rattle.std.specs.Prelude.{◌≡◌, take}
use Rattle.im_history.proofs.look.shared.Given as goal

abbrev pub invariant-loop-table : goal.invariant-loop-table
invariant-loop-table l = l.copies.items ≡ take l.table-index l.fn.tables
