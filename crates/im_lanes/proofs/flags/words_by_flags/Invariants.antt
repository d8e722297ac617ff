use Rattle.std.proofs.Common.{◌≡◌, ℕ, false, get_or, take, map}
use Rattle.im_lanes.specs.Masks.{words_of}
use Rattle.im_lanes.proofs.flags.words_by_flags.Given as goal

abbrev pub invariant-loop-place : goal.invariant-loop-place
invariant-loop-place l = l.words.items ≡ take l.place (words_of (map (λ (code : ℕ). get_or l.flags code false) l.bits.codes))
