use Rattle.std.proofs.Common.{◌≡◌, take}
use Rattle.im_bits.specs.Packed.{words_of}
use Rattle.im_bits.proofs.bits.words_from.Given as goal

abbrev pub invariant-loop-place : goal.invariant-loop-place
invariant-loop-place l = l.words.items ≡ take l.place (words_of l.width l.codes)
