use Rattle.std.proofs.Common.{◌≡◌, ◌+◌, drop}
use Rattle.im_group.specs.Tallies.{place_of}
use Rattle.im_group.proofs.asked.place_of.Given as goal

abbrev pub invariant-loop-i : goal.invariant-loop-i
invariant-loop-i l = l.i + place_of (drop l.i l.asked) l.column ≡ place_of l.asked l.column
