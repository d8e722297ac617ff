use Rattle.std.proofs.Common.{◌≡◌, take}
use Rattle.im_codes.specs.Runs.{codes_of, AreRuns}
use Rattle.im_codes.proofs.runs.Runs.build.Given as goal

abbrev pub invariant-loop-i : goal.invariant-loop-i
invariant-loop-i l = record {
  codes : codes_of l.runs.items ≡ take l.i l.codes;
  longest : AreRuns l.runs.items;
}
