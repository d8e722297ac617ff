use Rattle.std.proofs.Common.{nat_eq}
use Rattle.std.specs.List.{position_from}
use Rattle.im_names.proofs.FaultLemmas.{From}
use Rattle.im_names.proofs.targets.place_among.Given as goal

abbrev pub invariant-loop-i : goal.invariant-loop-i
invariant-loop-i l = From (position_from (nat_eq l.column)) l.numbers l.i
