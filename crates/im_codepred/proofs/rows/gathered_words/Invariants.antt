use Rattle.std.proofs.Common.{drop, ◌*◌, ◌≤◌, ◌≡◌, fold}
use Rattle.im_codepred.specs.Tallies.{chosen}
use Rattle.im_codepred.specs.inner.Slabs.{column_of}
use Rattle.im_codepred.specs.inner.Tallying.{with_value, no_totals}
use Rattle.im_codepred.proofs.rows.gathered_words.Given as goal

abbrev pub invariant-loop-place : goal.invariant-loop-place
invariant-loop-place l = record {
  few : l.gathered.values ≤ l.place * 64;
  comes : fold with_value l.gathered (chosen (drop (l.place * 64) l.mask) (drop (l.place * 64) (column_of l.rows l.column))) ≡
      fold with_value no_totals (chosen l.mask (column_of l.rows l.column));
}
