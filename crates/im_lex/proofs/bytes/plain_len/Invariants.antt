use Rattle.std.proofs.Common.{◌≡◌, ◌+◌, length, drop}
use Rattle.im_lex.specs.Bytes.{run}
use Rattle.im_lex.specs.inner.Pieces.{is_plain}
use Rattle.im_lex.proofs.bytes.plain_len.Given as goal

abbrev pub invariant-loop-i : goal.invariant-loop-i
invariant-loop-i l = l.i + length (run is_plain (drop l.i l.bytes)) ≡ length (run is_plain l.bytes)
