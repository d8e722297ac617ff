use Rattle.std.proofs.Common.{◌≡◌, drop, length}
use Rattle.std.specs.Str.{bytes_eq}
use Rattle.im_syntax.proofs.keyword.is_spelled.Given as goal

abbrev pub invariant-loop-i : goal.invariant-loop-i
invariant-loop-i l = (length l.letters ≡ length l.word) × (bytes_eq (drop l.i l.letters) (drop l.i l.word) ≡ bytes_eq l.letters l.word)
