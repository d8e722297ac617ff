use Rattle.std.proofs.Common.{◌≡◌, take}
use Rattle.im_unit.specs.Holding.{lent_slots}
use Rattle.im_unit.proofs.building.lend_slots.Given as goal

abbrev pub invariant-loop-row : goal.invariant-loop-row
invariant-loop-row l = lent_slots l.slots.items ≡ take l.row-index l.rows
