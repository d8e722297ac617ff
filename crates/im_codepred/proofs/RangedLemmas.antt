-- What lies in a range among codes.
use Rattle.std.proofs.Common.{◌≡◌, ℕ, zero, suc, ◌+◌, ◌-◌, ◌*◌, ◌^◌, ◌<◌, ◌≤◌, Bool, true, false, List, [], ◌∷◌, ◌++◌, length, get_or, take, drop, min, sym, refl, ap, subst, ◌∙◌, arith, if◌then◌else◌, zero-add, length-append, length-take, length-drop, take_all, get_or-take, get_or-drop}
use Rattle.std.proofs.lemmas.Bool.Decides.{nat_tests}
use Rattle.std.proofs.lemmas.List.{get_or_default, same_lists}
use Rattle.std.proofs.lemmas.List.Elements.{filter-append}
use Rattle.std.proofs.lemmas.List.Sums.{sum_by-append, sum_by-cons}
use Rattle.im_bits.specs.Packed.{HasBlockFrom}
use Rattle.im_lanes.specs.Masks.{is_within}
use Rattle.im_codepred.specs.inner.Ranged.{above, codes_within, LieWithin}

-- a code that lies in a range is below its end
pub below-end : (low end code : ℕ) → is_within low end code ≡ true → code < end
below-end low end code e = grind (arith, nat_tests, e)

pub from-low : (low end code : ℕ) → is_within low end code ≡ true → low ≤ code
from-low low end code e = grind (arith, nat_tests, e)

-- what lies in a range is no more than what there is
pub few-within : (low end : ℕ) (codes : List ℕ) → end ≤ 2 ^ 16 → (length (codes_within low end codes) ≤ length codes) × (above low (codes_within low end codes) ≤ length codes * 2 ^ 16)
few-within low end [] most = (omega arith, omega arith)
few-within low end (code ∷ codes) most = by (is_within low end code) refl (few-within low end codes most)
  where
    by : (b : Bool) → is_within low end code ≡ b → (length (codes_within low end codes) ≤ length codes) × (above low (codes_within low end codes) ≤ length codes * 2 ^ 16) →
        (length (if b then code ∷ codes_within low end codes else codes_within low end codes) ≤ suc (length codes))
        × (above low (if b then code ∷ codes_within low end codes else codes_within low end codes) ≤ suc (length codes) * 2 ^ 16)
    by true e rest =
        let one = sum_by-cons (λ (c : ℕ). c - low) code (codes_within low end codes) in
        let small = below-end low end code e in
        (omega (arith, rest.0), omega (arith, rest.1, one, small, most))
    by false e rest = (omega (arith, rest.0), omega (arith, rest.1))

-- what lies in a range of codes and then of others
pub within-more : (low end : ℕ) (codes more : List ℕ) (n total k sum : ℕ) → LieWithin low end codes n total → LieWithin low end more k sum →
    LieWithin low end (codes ++ more) (n + k) (total + sum)
within-more low end codes more n total k sum are next =
    let split = filter-append (is_within low end) codes more in
    record {
      count = omega (arith, are.count, next.count, ap length split, length-append (codes_within low end codes) (codes_within low end more));
      sum = omega (arith, are.sum, next.sum, ap (above low) split, sum_by-append (λ (c : ℕ). c - low) (codes_within low end codes) (codes_within low end more));
    }

nothing-left : (m : ℕ) → let none : List ℕ = [] in none ≡ take m none
nothing-left zero = refl
nothing-left (suc m) = refl

-- so many elements, and then so many behind them
take-then : (n m : ℕ) (codes : List ℕ) → take (n + m) codes ≡ take n codes ++ take m (drop n codes)
take-then zero m codes = ap (λ k. take k codes) (zero-add m)
take-then (suc n) m [] = let none : List ℕ = [] in let more : suc n + m ≡ suc (n + m) = omega arith in ap (λ k. take k none) more ∙ nothing-left m
take-then (suc n) m (code ∷ codes) = let more : suc n + m ≡ suc (n + m) = omega arith in ap (λ k. take k (code ∷ codes)) more ∙ ap (λ l. code ∷ l) (take-then n m codes)

-- one block more
pub next-block : (low end block : ℕ) (codes part : List ℕ) (n total k sum : ℕ) → LieWithin low end (take (block * 512) codes) n total →
    part ≡ take 512 (drop (block * 512) codes) → LieWithin low end part k sum → LieWithin low end (take ((block + 1) * 512) codes) (n + k) (total + sum)
next-block low end block codes part n total k sum are is next =
    let whole : take ((block + 1) * 512) codes ≡ take (block * 512) codes ++ part =
    ap (λ n. take n codes) (let more : (block + 1) * 512 ≡ block * 512 + 512 = omega arith in more)
    ∙ (take-then (block * 512) 512 codes ∙ ap (λ l. take (block * 512) codes ++ l) (sym is)) in
    rw whole (within-more low end (take (block * 512) codes) part n total k sum are next)

-- no block is left
pub all-blocks : (low end block : ℕ) (codes : List ℕ) (n total : ℕ) → length codes ≤ block * 512 → LieWithin low end (take (block * 512) codes) n total →
    LieWithin low end codes n total
all-blocks low end block codes n total all are = subst (λ (l : List ℕ). LieWithin low end l n total) (take_all (block * 512) codes all) are

-- the codes of a block stand at the front of the buffer that holds it
pub block-is : (codes out : List ℕ) (block left : ℕ) → HasBlockFrom codes ((block + 1 - 1) * 512) out → block * 512 < length codes →
    left ≡ min (length codes - block * 512) 512 → length out ≡ 640 → take left out ≡ take 512 (drop (block * 512) codes)
block-is codes out block left has inside is long =
    let size : length (take left out) ≡ left = omega (arith, length-take left out, is, long) in
    let first : (block + 1 - 1) * 512 ≡ block * 512 = omega arith in
    same_lists (take left out) (take 512 (drop (block * 512) codes))
    (omega (arith, size, is, length-take 512 (drop (block * 512) codes), length-drop (block * 512) codes)) (λ k d h.
    let few : k < left = omega (arith, size, h) in
    let below : k < 512 = omega (arith, few, is) in
    let there : k < length out = omega (arith, below, long) in
    let within : block * 512 + k < length codes = omega (arith, few, is) in
    get_or-take left out k d few
    ∙ (get_or_default out k d 0 there ∙ (has k below ∙ (ap (λ n. get_or codes (n + k) 0) first
    ∙ (get_or_default codes (block * 512 + k) 0 d within ∙ sym (get_or-take 512 (drop (block * 512) codes) k d below ∙ get_or-drop (block * 512) codes k d))))))
