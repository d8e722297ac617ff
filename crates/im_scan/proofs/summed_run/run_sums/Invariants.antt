use Rattle.std.proofs.Common.{◌≡◌, map, take}
use Rattle.im_codepred.specs.Tallies.{chosen}
use Rattle.im_group.specs.Sums.{sums_of}
use Rattle.im_unit.specs.Holding.{values_in}
use Rattle.im_scan.proofs.summed_run.run_sums.Given as goal

-- the summaries so far
abbrev pub invariant-loop-one : goal.invariant-loop-one
invariant-loop-one l =
    l.all.items ≡ map (λ a. sums_of a (chosen l.mask (values_in a.column l.rows))) (take l.one-index l.asked)
