use Rattle.std.proofs.Common.{◌≡◌, map, take}
use Rattle.im_scan.proofs.by_code.value_counts.Given as goal

-- the counts so far
abbrev pub invariant-loop-tally : goal.invariant-loop-tally
invariant-loop-tally l = l.counts.items ≡ map (λ tally. tally.values) (take l.tally-index l.tallies)
