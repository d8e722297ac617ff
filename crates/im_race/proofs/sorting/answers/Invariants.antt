use Rattle.std.proofs.Common.{drop}
use Rattle.im_race.proofs.AnswersLemmas.{AreAnswered}
use Rattle.im_race.proofs.sorting.answers.Given as goal

abbrev pub invariant-loop-line : goal.invariant-loop-line
invariant-loop-line l = AreAnswered l.answers.items l.replies (drop l.line-index l.lines) l.fn.replies l.lines
