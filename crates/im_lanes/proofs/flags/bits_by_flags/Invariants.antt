use Rattle.std.proofs.Common.{◌≡◌, ℕ, false, get_or, take, map}
use Rattle.im_lanes.specs.Masks.{word_of}
use Rattle.im_lanes.proofs.flags.bits_by_flags.Given as goal

abbrev pub invariant-loop-i : goal.invariant-loop-i
invariant-loop-i l = l.word ≡ word_of (take l.i (map (λ (code : ℕ). get_or l.flags code false) l.codes))
