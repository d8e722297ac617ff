use Rattle.std.proofs.Common.{◌≡◌, ◌+◌, ◌≤◌, ◌++◌, length, map, take, Some, vec_len}
use Rattle.std.specs.Prelude.{vec_capacity}
use Rattle.im_unit.specs.Holding.{lent_slots}
use Rattle.im_worker.proofs.rows.put_run.Given as goal

-- the rows so far are there, and room for all of them
abbrev pub invariant-loop-at : goal.invariant-loop-at
invariant-loop-at l = record {
  rows : lent_slots l.slots.items ≡ lent_slots l.fn.slots.items ++ map (λ row. Some row) (take l.at l.run);
  long : vec_len l.slots ≡ vec_len l.fn.slots + l.at;
  room : vec_len l.fn.slots + length l.run ≤ vec_capacity l.slots;
}
