use Rattle.std.proofs.Common.{drop}
use Rattle.im_codepred.specs.inner.Spans.{is_chosen}
use Rattle.im_codepred.specs.inner.Walk.{AreWalked}
use Rattle.im_codepred.proofs.form.chosen_runs.Given as goal

abbrev pub invariant-loop-run : goal.invariant-loop-run
invariant-loop-run l = AreWalked (is_chosen l.chosen) l.runs (drop l.run-index l.run-items) l.begin l.mask
