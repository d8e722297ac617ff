use Rattle.std.proofs.Common.{◌≡◌, ◌+◌, length, drop}
use Rattle.im_lex.specs.Bytes.{run, is_blank}
use Rattle.im_script.proofs.forms.blanks.Given as goal

abbrev pub invariant-loop-i : goal.invariant-loop-i
invariant-loop-i l = l.i + length (run is_blank (drop l.i l.line)) ≡ length (run is_blank l.line)
