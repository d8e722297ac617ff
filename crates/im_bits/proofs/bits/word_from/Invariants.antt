use Rattle.std.proofs.Common.{◌≡◌, take}
use Rattle.im_bits.specs.Packed.{word_of}
use Rattle.im_bits.proofs.bits.word_from.Given as goal

abbrev pub invariant-loop-i : goal.invariant-loop-i
invariant-loop-i l = l.word ≡ word_of l.width (take l.i l.codes)
