use Rattle.std.proofs.Common.{◌≡◌, [], ◌++◌, map, drop}
use Rattle.im_group.specs.Sums.{sums_of}
use Rattle.im_group.proofs.tallies.Tallies.new.Given as goal

abbrev pub invariant-loop-one : goal.invariant-loop-one
invariant-loop-one l = l.sums.items ++ map (λ a. sums_of a []) (drop l.one-index l.asked) ≡ map (λ a. sums_of a []) l.asked
