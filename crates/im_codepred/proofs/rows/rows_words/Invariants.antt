use Rattle.std.proofs.Common.{◌≡◌, take, map}
use Rattle.im_lanes.specs.Masks.{words_of}
use Rattle.im_codepred.specs.inner.Numbers.{passes_in}
use Rattle.im_codepred.proofs.rows.rows_words.Given as goal

abbrev pub invariant-loop-place : goal.invariant-loop-place
invariant-loop-place l = l.words.items ≡ take l.place (words_of (map (passes_in l.probe l.column) l.rows))
