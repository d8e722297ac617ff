-- One compare for both ends of a range.
use Rattle.std.proofs.Common.{◌≡◌, ℕ, ◌+◌, ◌-◌, ◌*◌, ◌%◌, ◌^◌, ◌<◌, ◌≤◌, nat_le, List, [], ◌∷◌, map, ⊎_elim, refl, ap, ◌∙◌, arith, mod-eq_of_lt}
use Rattle.std.proofs.lemmas.Bool.{cases_lt, le-leb, lt-leb}
use Rattle.std.proofs.lemmas.Nat.{mod_low}
use mir.Syntax.{w32}
use mir.Val.{Fits}
use lib.Lanes.{Each1, mask_l}
use Rattle.im_lanes.proofs.BitLemmas.{leb-same}
use Rattle.im_lanes.specs.Masks.{is_between, word_of}

-- what is below the lower end wraps to a number above each difference
pub one-compare : (low high code : ℕ) → low ≤ high → high < 2 ^ 32 → code < 2 ^ 32 →
    nat_le ((code + (4294967296 - low)) % 4294967296) (high - low) ≡ is_between low high code
one-compare low high code order top small =
    ⊎_elim
    (λ (h : code < low).
    let wrapped : (code + (4294967296 - low)) % 4294967296 ≡ code + (4294967296 - low) = mod-eq_of_lt (omega (arith, h, top, order)) in
    rw (wrapped, lt-leb low code h) (lt-leb (code + (4294967296 - low)) (high - low) (omega (arith, top, order))))
    (λ (h : low ≤ code).
    let wrapped : (code + (4294967296 - low)) % 4294967296 ≡ code - low =
    let turn : code + (4294967296 - low) ≡ 1 * 2 ^ 32 + (code - low) = omega (arith, h, top, order) in
    let short : code - low < 2 ^ 32 = omega (arith, small) in
    ap (λ n. n % 4294967296) turn ∙ mod_low 1 32 (code - low) short in
    rw (wrapped, le-leb low code h) (let up : code - low ≤ high - low → code ≤ high = λ g. omega (arith, g, h, order) in
    let back : code ≤ high → code - low ≤ high - low = λ g. omega (arith, g, h, order) in
    leb-same (code - low) (high - low) code high up back))
    (cases_lt code low)

-- the bits of lanes that say whether a code lies in a range
pub lanes-between : (f : ℕ → ℕ) (low high : ℕ) (codes : List ℕ) → Each1 (Fits w32) codes →
    ((code : ℕ) → code < 2 ^ 32 → nat_le (f code) (high - low) ≡ is_between low high code) →
    mask_l (map (λ x. nat_le x (high - low)) (map f codes)) ≡ word_of (map (is_between low high) codes)
lanes-between f low high [] fit each = refl
lanes-between f low high (code ∷ codes) fit each =
    let here = each code fit.0.fits in
    let rest = lanes-between f low high codes fit.1 each in
    rw (here, rest) refl
