use Rattle.std.proofs.Common.{◌≡◌, ◌<◌, All, length, map, take, vec_len}
use Rattle.std.specs.Prelude.{is_some, nat_lt, vec_capacity}
use Rattle.im_unit.proofs.presence.bits_of.Given as goal

-- the bits so far are those of the rows so far, and there is room for all of them
abbrev pub invariant-loop-row : goal.invariant-loop-row
invariant-loop-row g l = record {
  flags : map (nat_lt 0) l.bits.items ≡ map is_some (take l.row-index l.rows);
  fit : All (λ bit. bit < 2) l.bits.items;
  long : vec_len l.bits ≡ l.row-index;
  room : vec_capacity l.bits ≡ length l.rows;
}
