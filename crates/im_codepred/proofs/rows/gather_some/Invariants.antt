use Rattle.std.proofs.Common.{drop, fold, take}
use Rattle.im_codepred.specs.inner.Slabs.{column_of}
use Rattle.im_codepred.specs.inner.Tallying.{at_bits, with_value, IsLeft}
use Rattle.im_codepred.proofs.rows.gather_some.Given as goal

abbrev pub invariant-loop-rest : goal.invariant-loop-rest
invariant-loop-rest l =
    IsLeft with_value (take 64 (drop l.first (column_of l.rows l.column))) l.rest l.gathered
    (fold with_value l.fn.gathered (at_bits l.word (take 64 (drop l.first (column_of l.rows l.column)))))

abbrev pub decreases-loop-rest : goal.decreases-loop-rest
decreases-loop-rest l = l.rest
