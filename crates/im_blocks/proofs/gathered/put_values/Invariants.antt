use Rattle.std.proofs.Common.{◌≡◌, ◌+◌, ◌≤◌, ◌++◌, length, take, vec_capacity, vec_len}
use Rattle.im_blocks.proofs.gathered.put_values.Given as goal

-- the values before this one are copied, and there is room for the others
abbrev pub invariant-loop-value : goal.invariant-loop-value
invariant-loop-value l = record {
  items : l.values.items ≡ l.fn.values.items ++ take l.value-index l.row;
  room : vec_len l.fn.values + length l.row ≤ vec_capacity l.values;
  len : vec_len l.values ≡ vec_len l.fn.values + l.value-index;
}
