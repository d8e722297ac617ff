use Rattle.std.proofs.Common.{◌+◌, ◌-◌, ◌≤◌, vec_len}
use Rattle.im_edge.specs.Reading.{Gave}
use Rattle.im_edge.proofs.reading.read_through.Given as goal

-- the bytes so far came off the front, and are within the limit
abbrev pub invariant-loop-count : goal.invariant-loop-count
invariant-loop-count g l = record {
  gave : Gave (g.S.Source.left l.fn.source) (g.S.Source.left l.source) l.bytes.items;
  few : vec_len l.bytes ≤ l.most;
  later : g.S.Source.faults l.fn.source ≤ g.S.Source.faults l.source;
}

abbrev pub decreases-loop-count : goal.decreases-loop-count
decreases-loop-count g l = l.most + 1 - vec_len l.bytes
