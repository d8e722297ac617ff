use Rattle.std.proofs.Common.{◌<◌, ◌≤◌, ◌^◌, All, take}
use Rattle.im_blocks.proofs.chains.tables_end.Given as goal

-- it is past the tables of the chains so far
abbrev pub invariant-loop-touched : goal.invariant-loop-touched
invariant-loop-touched l = record {
  few : l.end ≤ 2 ^ 32;
  past : All (λ touched. touched.table < l.end) (take l.touched-index l.chains);
}
