use Rattle.std.proofs.Common.{◌≡◌, ◌≤◌, ◌*◌, map, take, vec_len}
use Rattle.std.specs.Prelude.{nat_lt, vec_capacity}
use Rattle.std.specs.List.{range_with_len}
use Rattle.im_unit.specs.inner.Kept.{count_set}
use Rattle.im_unit.proofs.presence.ranks_of.Given as goal

-- the ranks so far, the one that comes next, and room for all of them
abbrev pub invariant-loop-i : goal.invariant-loop-i
invariant-loop-i l = record {
  ranks : l.ranks.items ≡ map (λ i. count_set (take (i * 64) (map (nat_lt 0) l.bits))) (range_with_len 0 l.i);
  count : l.count ≡ count_set (take (l.i * 64) (map (nat_lt 0) l.bits));
  few : l.count ≤ l.i * 64;
  long : vec_len l.ranks ≡ l.i;
  room : vec_capacity l.ranks ≡ l.many;
}
