-- The next chosen position of a mask, word by word.
use Rattle.std.proofs.Common.{◌≡◌, ◌≢◌, ℕ, ◌+◌, ◌-◌, ◌*◌, ◌/◌, ◌%◌, ◌^◌, ◌<◌, ◌≤◌, ◌==◌, Bool, true, false, List, length, get_or, drop, Option, Some, None, refl, sym, ap, subst, ◌∙◌, ⊎_elim, arith, div-add-mod'}
use Rattle.std.specs.Int.{div_ceil, trailing_zeros}
use Rattle.std.proofs.Common.{w64}
use Rattle.std.specs.Bool.{then_some}
use Rattle.std.specs.Prelude.{nat_lt}
use Rattle.std.proofs.lemmas.Bool.Decides.{nat_tests}
use Rattle.std.proofs.lemmas.Bool.{cases_lt}
use Rattle.std.proofs.lemmas.Grind.{div_ceil_times}
use Rattle.std.proofs.lemmas.Nat.{pow-add, div_below}
use Rattle.std.proofs.lemmas.Nat.Bits.{bit_at-trailing_zeros, bit_at_above, bit_at-zero}
use Rattle.std.proofs.Math.Nat.{div-div-eq-div-mul, div-le_self}
use Rattle.im_lanes.specs.Masks.{is_set, word_at, words_of}
use Rattle.im_lanes.proofs.ForCallers.{get_or-words_of, set-word_at, word_of-few}
use Rattle.im_scan.specs.inner.Walk.{AreClear, IsNext}

-- the word of a position is among the words
pub place-inside : (n i : ℕ) → i < n → i / 64 < div_ceil n 64
place-inside n i inside = let enough = (div_ceil_times n 64 (omega arith)).0 in div_below i 64 (div_ceil n 64) (omega arith) (omega arith)

-- a bit of a word that was moved down
moved : (w s j : ℕ) → w / 2 ^ s / 2 ^ j % 2 ≡ w / 2 ^ (s + j) % 2
moved w s j = ap (λ n. n % 2) (div-div-eq-div-mul w (2 ^ s) (2 ^ j) ∙ ap (λ m. w / m) (sym (pow-add 2 s j)))

at-word : (mask : List Bool) (from j word : ℕ) → word ≡ word_at mask (from / 64) → from % 64 + j < 64 →
    is_set (word / 2 ^ (from % 64)) j ≡ get_or mask (from + j) false
at-word mask from j word is inside =
    let there : from / 64 * 64 + (from % 64 + j) ≡ from + j = omega (arith, div-add-mod' from 64) in
    ap (λ n. n == 1) (moved word (from % 64) j)
    ∙ (ap (λ w. is_set w (from % 64 + j)) is
    ∙ (set-word_at mask (from / 64) (from % 64 + j) inside ∙ ap (λ k. get_or mask k false) there))

-- nothing is chosen in the rest of a word that is 0
pub none-left : (mask : List Bool) (from word : ℕ) → word ≡ word_at mask (from / 64) → word / 2 ^ (from % 64) ≡ 0 →
    AreClear mask from ((from / 64 + 1) * 64)
none-left mask from word is none k low high =
    let here : from + (k - from) ≡ k = omega (arith, low) in
    let inside : from % 64 + (k - from) < 64 = omega (arith, div-add-mod' from 64, low, high) in
    ap (λ n. get_or mask n false) (sym here)
    ∙ (sym (at-word mask from (k - from) word is inside)
    ∙ (ap (λ w. is_set w (k - from)) none ∙ ap (λ n. n == 1) (bit_at-zero (k - from))))

-- a chosen position, from one on
pub record IsFound (mask : List Bool) (from at : ℕ) : Type 0 where
  pub chosen : get_or mask at false ≡ true
  pub clear : AreClear mask from at

small : (mask : List Bool) (place s word : ℕ) → word ≡ word_at mask place → word / 2 ^ s < 2 ^ 64
small mask place s word is =
    let few = word_of-few (drop (place * 64) mask) 64 in
    omega (arith, is, few, div-le_self word (2 ^ s))

pub found-next : (mask : List Bool) (from word rest : ℕ) → word ≡ word_at mask (from / 64) → rest ≡ word / 2 ^ (from % 64) → rest ≢ 0 →
    IsFound mask from (from + trailing_zeros w64 rest)
found-next mask from word rest is moved_is some = record {
  chosen = sym (at z inside) ∙ ap (λ n. n == 1) lows.1;
  clear = λ k low high.
      let here : from + (k - from) ≡ k = omega (arith, low) in
      let under : k - from < z = omega (arith, low, high) in
      ap (λ n. get_or mask n false) (sym here) ∙ (sym (at (k - from) (omega (arith, under, inside))) ∙ ap (λ n. n == 1) (lows.2 (k - from) under));
}
  where
    z : ℕ
    z = trailing_zeros w64 rest

    below : rest < 2 ^ 64
    below = omega (arith, moved_is, small mask (from / 64) (from % 64) word is)

    lows : (z < 64) × (rest / 2 ^ z % 2 ≡ 1) × ((i : ℕ) → i < z → rest / 2 ^ i % 2 ≡ 0)
    lows = bit_at-trailing_zeros w64 rest (omega (arith, some)) below

    inside : from % 64 + z < 64
    inside =
        ⊎_elim (λ (h : from % 64 + z < 64). h)
        (λ (past : 64 ≤ from % 64 + z).
        let none = bit_at_above word 64 (from % 64 + z) (omega (arith, is, word_of-few (drop (from / 64 * 64) mask) 64)) past in
        let bit : word / 2 ^ (from % 64 + z) % 2 ≡ 1 = sym (ap (λ n. n / 2 ^ z % 2) moved_is ∙ moved word (from % 64) z) ∙ lows.1 in
        absurd (omega (arith, none, bit)))
        (cases_lt (from % 64 + z) 64)

    at : (j : ℕ) → from % 64 + j < 64 → is_set rest j ≡ get_or mask (from + j) false
    at j low = ap (λ n. is_set n j) moved_is ∙ at-word mask from j word is low

-- the word of a position, read from the words of a mask
pub word-read : (mask : List Bool) (words : List ℕ) (at : ℕ) → words ≡ words_of mask → at < length mask → get_or words (at / 64) 0 ≡ word_at mask (at / 64)
word-read mask words at are inside =
    ap (λ ws. get_or ws (at / 64) 0) are ∙ get_or-words_of mask (at / 64) 0 (place-inside (length mask) at inside)

pub clear-on : (mask : List Bool) (from at end : ℕ) → AreClear mask from at → AreClear mask at end → AreClear mask from end
clear-on mask from at end before behind k low high =
    ⊎_elim (λ (under : k < at). before k low under) (λ (over : at ≤ k). behind k over high) (cases_lt k at)

-- a chosen position is the next one, if it is below the end
pub next-is : (mask : List Bool) (from at next end : ℕ) (result : Option ℕ) → result ≡ then_some (nat_lt next end) next → from ≤ at → at ≤ next →
    AreClear mask from at → IsFound mask at next → IsNext mask from end result
next-is mask from at next end result is low order clear found = subst (IsNext mask from end) (sym is) (by (nat_lt next end) refl)
  where
    all : AreClear mask from next
    all = clear-on mask from at next clear found.clear

    by : (b : Bool) → nat_lt next end ≡ b → IsNext mask from end (then_some b next)
    by true e = (omega (arith, low, order), grind (arith, nat_tests, e), found.chosen, all)
    by false e = λ k begins below. let past : end ≤ next = grind (arith, nat_tests, e) in all k begins (omega (arith, below, past))

-- where there is no next one nothing is chosen
pub none-next : (mask : List Bool) (from end : ℕ) (result : Option ℕ) → IsNext mask from end result → ((at : ℕ) → result ≡ Some at → ⊥) → AreClear mask from end
none-next mask from end None next none = next
none-next mask from end (Some at) next none = absurd (none at refl)
