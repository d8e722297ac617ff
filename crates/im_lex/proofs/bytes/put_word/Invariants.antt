use Rattle.im_lex.proofs.Capitals.{SoFarPut}
use Rattle.im_lex.proofs.bytes.put_word.Given as goal

abbrev pub invariant-loop-i : goal.invariant-loop-i
invariant-loop-i l = SoFarPut l.i l.bytes l.fn.buffer l.buffer
