use Rattle.std.proofs.Common.{◌≡◌, ◌++◌, length, drop}
use Rattle.im_codes.specs.Runs.{codes_from, codes_of, AreFull}
use Rattle.im_codes.proofs.runs.laid_out.Given as goal

-- the codes so far, and those of the runs that are left
abbrev pub invariant-loop-i : goal.invariant-loop-i
invariant-loop-i l = record {
  full : AreFull (length l.codes.items) (drop l.i l.runs);
  codes : l.codes.items ++ codes_from (length l.codes.items) (drop l.i l.runs) ≡ codes_of l.runs;
}
