use Rattle.std.proofs.Common.{◌≡◌, take, map}
use Rattle.im_bits.specs.Packed.{IsHeld}
use Rattle.im_lanes.specs.Masks.{words_of, is_between}
use Rattle.im_lanes.proofs.between.words_between.Given as goal

abbrev pub invariant-loop-place : goal.invariant-loop-place
invariant-loop-place l = record {
  words : l.words.items ≡ take l.place (words_of (map (is_between l.low l.high) l.bits.codes));
  held : IsHeld l.bits.codes l.held l.codes;
}
