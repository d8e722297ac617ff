use Rattle.std.proofs.Common.{◌≡◌, ◌≤◌, ◌+◌, ◌-◌, ◌*◌, length}
use Rattle.im_bits.specs.Packed.{codes_per_word}
use Rattle.im_bits.specs.inner.Unpacking.{HasCodesOf}
use Rattle.im_bits.proofs.bits.unpack_block.Given as goal

abbrev pub invariant-loop-k : goal.invariant-loop-k
invariant-loop-k g l = record {
  size : length l.codes ≡ 640;
  some : 1 ≤ l.k;
  has : HasCodesOf g.row.W l.words (l.first * codes_per_word g.row.W + l.skipped) (l.k * codes_per_word g.row.W - l.skipped) l.codes;
}
