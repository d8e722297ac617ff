use Rattle.std.proofs.Common.{◌≡◌, ◌++◌, ◌+◌, ◌^◌, min, take, drop}
use Rattle.std.specs.Char.{is_ascii_digit}
use Rattle.im_lex.specs.Bytes.{run, value_of}
use Rattle.im_lex.proofs.bytes.leading_digits.Given as goal

abbrev pub invariant-loop-i : goal.invariant-loop-i
invariant-loop-i l =
    (take l.i l.bytes ++ run is_ascii_digit (drop l.i l.bytes) ≡ run is_ascii_digit l.bytes)
    × (l.value ≡ min (value_of (take l.i l.bytes)) (2 ^ 63 + 1))
