use Rattle.std.proofs.Common.{[]}
use Rattle.im_lex.specs.inner.Straight.{Reads}
use Rattle.im_lex.proofs.places.behind_blanks.Given as goal

abbrev pub invariant-loop-place : goal.invariant-loop-place
invariant-loop-place l = Reads l.line l.at l.place []
