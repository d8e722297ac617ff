use Rattle.std.proofs.Common.{◌≡◌, ◌≤◌, ◌*◌, ℕ, drop, fold, get_or}
use Rattle.im_bits.specs.Packed.{IsHeld}
use Rattle.im_codepred.specs.Tallies.{chosen}
use Rattle.im_codepred.specs.inner.Tallying.{one_more}
use Rattle.im_codepred.proofs.counts.count_all.Given as goal

abbrev pub invariant-loop-place : goal.invariant-loop-place
invariant-loop-place l = record {
  few : (code : ℕ) → get_or l.counts code 0 ≤ l.place * 64;
  comes : fold one_more l.counts (chosen (drop (l.place * 64) l.mask) (drop (l.place * 64) l.bits.codes)) ≡
      fold one_more l.fn.counts (chosen l.mask l.bits.codes);
  held : IsHeld l.bits.codes l.held l.codes;
}
