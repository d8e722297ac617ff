use Rattle.im_lex.specs.inner.Straight.{ReadsTuples}
use Rattle.im_lex.proofs.inserts.tuples.Given as goal

abbrev pub invariant-loop-count : goal.invariant-loop-count
invariant-loop-count l = ReadsTuples l.line l.at l.next l.width l.count l.values.items
