use Rattle.std.proofs.Common.{◌≡◌, ◌≤◌, ◌*◌, ℕ, drop, fold, get_or, zip}
use Rattle.im_codepred.specs.Tallies.{chosen}
use Rattle.im_codepred.specs.inner.Tallying.{no_totals, with_pair}
use Rattle.im_codepred.proofs.keyed.group_all.Given as goal

abbrev pub invariant-loop-place : goal.invariant-loop-place
invariant-loop-place l = record {
  few : (key : ℕ) → (get_or l.groups key no_totals).values ≤ l.place * 64;
  comes : fold with_pair l.groups (chosen (drop (l.place * 64) l.mask) (drop (l.place * 64) (zip l.keys.codes l.column))) ≡
      fold with_pair l.fn.groups (chosen l.mask (zip l.keys.codes l.column));
}
