use Rattle.std.proofs.Common.{◌≡◌, ◌^◌, ◌<◌, All, vec_len}
use Rattle.check_parts.proofs.bits.codes_of.Given as goal

abbrev pub invariant-loop-i : goal.invariant-loop-i
invariant-loop-i l = record {
  many : vec_len l.codes ≡ l.i;
  fit : All (λ code. code < 2 ^ l.width) l.codes.items;
}
