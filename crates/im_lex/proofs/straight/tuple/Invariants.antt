use Rattle.im_lex.specs.inner.Straight.{ReadsValues}
use Rattle.im_lex.proofs.straight.tuple.Given as goal

abbrev pub invariant-loop : goal.invariant-loop
invariant-loop l = ReadsValues l.line l.at l.next l.fn.values.items l.values.items
