use Rattle.std.proofs.Common.{◌≡◌, ◌++◌, map, drop}
use Rattle.im_group.specs.Tallies.{asked_of}
use Rattle.im_group.proofs.asked.asked_in.Given as goal

abbrev pub invariant-loop-column : goal.invariant-loop-column
invariant-loop-column l =
    l.asked.items ++ map (asked_of l.items) (drop l.column-index l.column-items) ≡ map (asked_of l.items) l.column-items
