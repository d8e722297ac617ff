use Rattle.std.proofs.Common.{◌-◌, ◌≤◌, length, take}
use Rattle.im_edge.specs.Writing.{Took}
use Rattle.im_edge.proofs.writing.write_all.Given as goal

-- the sink has taken the first bytes of the text
abbrev pub invariant-loop-done : goal.invariant-loop-done
invariant-loop-done g l = record {
  within : l.done ≤ length l.text;
  took : Took (g.K.Sink.taken l.fn.sink) (g.K.Sink.taken l.sink) (take l.done l.text);
  later : g.K.Sink.faults l.fn.sink ≤ g.K.Sink.faults l.sink;
}

abbrev pub decreases-loop-done : goal.decreases-loop-done
decreases-loop-done g l = length l.text - l.done
