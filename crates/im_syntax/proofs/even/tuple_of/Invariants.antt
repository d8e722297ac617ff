use Rattle.std.proofs.Common.{◌≡◌, map, take}
use Rattle.im_syntax.specs.Tuples.{lit_of}
use Rattle.im_syntax.proofs.even.tuple_of.Given as goal

abbrev pub invariant-loop-value : goal.invariant-loop-value
invariant-loop-value l = l.lits.items ≡ map lit_of (take l.value-index l.values)
