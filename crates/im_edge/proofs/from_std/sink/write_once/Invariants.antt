-- a write that was broken off took nothing
use Rattle.std.specs.Io.KnownBytes.{Keeps}
use Rattle.im_edge.proofs.from_std.sink.write_once.Given as goal

abbrev pub invariant-loop : goal.invariant-loop
invariant-loop g l = Keeps (g.W.Write.contents l.initial.writer) (g.W.Write.contents l.writer)
