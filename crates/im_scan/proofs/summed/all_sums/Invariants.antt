use Rattle.std.proofs.Common.{◌≡◌, map, take}
use Rattle.im_codepred.specs.Tallies.{chosen}
use Rattle.im_group.specs.Sums.{sums_of}
use Rattle.im_unit.specs.Holding.{present_rows, values_in}
use Rattle.im_scan.proofs.summed.all_sums.Given as goal

-- the summaries so far
abbrev pub invariant-loop-one : goal.invariant-loop-one
invariant-loop-one l =
    l.all.items ≡ map (λ a. sums_of a (chosen l.spots (values_in a.column (present_rows l.unit.rows)))) (take l.one-index l.asked)
