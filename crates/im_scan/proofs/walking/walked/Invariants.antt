use Rattle.std.proofs.Common.{take, ◌≤◌}
use Rattle.im_scan.specs.inner.Walk.{unit_in}
use Rattle.im_scan.proofs.WalkLemmas.{IsWalked}
use Rattle.im_scan.proofs.walking.walked.Given as goal

-- the part of what stands at the row numbers so far
abbrev pub invariant-loop-rid : goal.invariant-loop-rid
invariant-loop-rid l = record {
  walked : IsWalked l.asking (unit_in l.kept) l.first ((take l.rid-index l.beside)) l.from l.part;
  high : l.from ≤ l.end;
}
