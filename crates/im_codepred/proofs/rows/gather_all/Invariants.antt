use Rattle.std.proofs.Common.{◌≡◌, drop, fold, take}
use Rattle.im_codepred.specs.inner.Slabs.{column_of}
use Rattle.im_codepred.specs.inner.Tallying.{with_value}
use Rattle.im_codepred.proofs.rows.gather_all.Given as goal

abbrev pub invariant-loop-i : goal.invariant-loop-i
invariant-loop-i l = l.gathered ≡ fold with_value l.fn.gathered (take l.i (drop l.first (column_of l.rows l.column)))
