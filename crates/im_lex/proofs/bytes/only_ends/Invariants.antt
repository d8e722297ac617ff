use Rattle.std.proofs.Common.{◌≡◌, drop}
use Rattle.im_lex.specs.Bytes.{only_ends}
use Rattle.im_lex.proofs.bytes.only_ends.Given as goal

abbrev pub invariant-loop-i : goal.invariant-loop-i
invariant-loop-i l = only_ends (drop l.i l.bytes) ≡ only_ends l.bytes
