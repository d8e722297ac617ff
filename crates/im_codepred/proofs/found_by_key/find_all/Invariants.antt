use Rattle.std.proofs.Common.{◌≡◌, ◌≤◌, ◌*◌, ℕ, drop, fold, get_or, zip}
use Rattle.im_bits.specs.Packed.{IsHeld}
use Rattle.im_codepred.specs.Tallies.{chosen}
use Rattle.im_codepred.specs.inner.Tallying.{nothing, with_code}
use Rattle.im_codepred.proofs.found_by_key.find_all.Given as goal

abbrev pub invariant-loop-place : goal.invariant-loop-place
invariant-loop-place l = record {
  few : (key : ℕ) → (get_or l.founds key nothing).values ≤ l.place * 64;
  comes : fold (with_code l.ends l.numbers) l.founds (chosen (drop (l.place * 64) l.mask) (drop (l.place * 64) (zip l.keys.codes l.codes.codes))) ≡
      fold (with_code l.ends l.numbers) l.fn.founds (chosen l.mask (zip l.keys.codes l.codes.codes));
  keys : IsHeld l.keys.codes l.held l.some_keys;
  codes : IsHeld l.codes.codes l.held l.some_codes;
}
