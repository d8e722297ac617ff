use Rattle.std.proofs.Common.{◌≡◌, take, map}
use Rattle.im_lanes.specs.Masks.{word_of}
use Rattle.im_codepred.specs.inner.Numbers.{passes}
use Rattle.im_codepred.proofs.form.plain_word.Given as goal

abbrev pub invariant-loop-i : goal.invariant-loop-i
invariant-loop-i l = l.word ≡ word_of (take l.i (map (passes l.probe) l.values))
