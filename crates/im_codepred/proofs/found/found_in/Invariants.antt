use Rattle.std.proofs.Common.{drop, ◌*◌, ◌≤◌, ◌≡◌, fold}
use Rattle.im_bits.specs.Packed.{IsHeld}
use Rattle.im_codepred.specs.Tallies.{chosen}
use Rattle.im_codepred.specs.inner.Tallying.{taken, nothing}
use Rattle.im_codepred.proofs.found.found_in.Given as goal

abbrev pub invariant-loop-place : goal.invariant-loop-place
invariant-loop-place l = record {
  few : l.found.values ≤ l.place * 64;
  comes : fold (taken l.numbers) l.found (chosen (drop (l.place * 64) l.mask) (drop (l.place * 64) l.bits.codes)) ≡
      fold (taken l.numbers) nothing (chosen l.mask l.bits.codes);
  held : IsHeld l.bits.codes l.held l.codes;
}
