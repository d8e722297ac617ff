use Rattle.std.proofs.Common.{◌≡◌, ◌++◌, map, drop}
use Rattle.im_group.specs.Tallies.{wanted}
use Rattle.im_group.proofs.asking.wanted.Given as goal

abbrev pub invariant-loop-key : goal.invariant-loop-key
invariant-loop-key l = l.items.items ++ map (λ k. k.item) (drop l.key-index l.key-items) ≡ wanted l.bound
