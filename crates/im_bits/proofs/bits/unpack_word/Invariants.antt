use Rattle.std.proofs.Common.{◌≡◌, length}
use Rattle.im_bits.specs.inner.Unpacking.{HasFields}
use Rattle.im_bits.proofs.bits.unpack_word.Given as goal

abbrev pub invariant-loop-j : goal.invariant-loop-j
invariant-loop-j g l = record {
  size : length l.codes ≡ g.row.N;
  has : HasFields g.row.W l.word l.at l.j l.fn.codes l.codes;
}
