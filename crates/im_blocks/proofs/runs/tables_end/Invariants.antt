use Rattle.std.proofs.Common.{◌<◌, ◌≤◌, ◌^◌, All, take}
use Rattle.im_blocks.proofs.runs.tables_end.Given as goal

-- it is past the tables of the runs so far
abbrev pub invariant-loop-run : goal.invariant-loop-run
invariant-loop-run l = record {
  few : l.end ≤ 2 ^ 32;
  past : All (λ run. run.table < l.end) (take l.run-index l.runs);
}
