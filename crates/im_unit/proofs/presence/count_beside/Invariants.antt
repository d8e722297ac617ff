use Rattle.std.proofs.Common.{◌≡◌, ◌≤◌, map, take}
use Rattle.std.specs.Prelude.{nat_lt}
use Rattle.im_unit.specs.inner.Kept.{count_set}
use Rattle.im_unit.proofs.presence.count_beside.Given as goal

-- so many of the bits before this one are set
abbrev pub invariant-loop-i : goal.invariant-loop-i
invariant-loop-i l = record {
  count : l.count ≡ count_set (take l.i (map (nat_lt 0) l.bits));
  most : l.count ≤ l.i;
}
