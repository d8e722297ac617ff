use Rattle.std.proofs.Common.{◌≡◌, take, map}
use Rattle.im_lanes.specs.Masks.{words_of}
use Rattle.im_codepred.specs.inner.Numbers.{passes}
use Rattle.im_codepred.proofs.form.plain_words.Given as goal

abbrev pub invariant-loop-place : goal.invariant-loop-place
invariant-loop-place l = l.words.items ≡ take l.place (words_of (map (passes l.probe) l.values))
