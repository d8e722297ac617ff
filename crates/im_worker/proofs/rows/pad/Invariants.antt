use Rattle.std.proofs.Common.{◌≡◌, ◌++◌}
use Rattle.im_unit.specs.Holding.{lent_slots}
use Rattle.im_worker.specs.inner.Built.{nones}
use Rattle.im_worker.proofs.rows.pad.Given as goal

abbrev pub invariant-loop : goal.invariant-loop
invariant-loop l = lent_slots l.slots.items ≡ lent_slots l.fn.slots.items ++ nones l.counter
