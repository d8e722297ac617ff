use Rattle.std.proofs.Common.{refl}
use Rattle.im_column.proofs.column.as_runs.Goals as goal

pub returns : goal.returns
returns c = record {
  stands = rw c.in_ok-runs.ensures refl;
  kept = (c.requires.shape, rw c.in_ok-runs.ensures c.requires.kept);
  least = c.requires.bytes;
}
