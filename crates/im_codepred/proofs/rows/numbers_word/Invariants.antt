use Rattle.std.proofs.Common.{◌≡◌, ◌*◌, take, drop, map}
use Rattle.im_lanes.specs.Masks.{word_of}
use Rattle.im_codepred.specs.inner.Numbers.{passes_in}
use Rattle.im_codepred.proofs.rows.numbers_word.Given as goal

abbrev pub invariant-loop-i : goal.invariant-loop-i
invariant-loop-i l = l.word ≡ word_of (take l.i (drop (l.place * 64) (map (passes_in l.probe l.column) l.rows)))
