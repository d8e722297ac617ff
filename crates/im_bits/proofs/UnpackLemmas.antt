-- Codes unpacked one after another.
use Rattle.std.proofs.Common.{◌≡◌, ◌≢◌, ℕ, ◌+◌, ◌-◌, ◌*◌, ◌/◌, ◌%◌, ◌^◌, ◌<◌, ◌≤◌, List, length, set, get_or, slice_index, take, drop, min, All, ⊎_elim, sym, ap, ◌∙◌, arith, add-mul, add_assoc, div-add-mod', mul-le-mul_right, length-take, length-drop, get_or-take, get_or-drop}
use Rattle.std.proofs.lemmas.Bool.{cases_lt}
use Rattle.std.proofs.lemmas.List.{get_or-set_same, get_or-set_other, get_or_past, get_or_default, same_lists}
use Rattle.std.proofs.lemmas.Nat.{div-mul-add, mod-mul-add, mod_below, shr-shr}
use Rattle.im_bits.specs.Packed.{code_in, codes_in, codes_per_word, words_of, HasBlockFrom}
use Rattle.im_bits.specs.inner.Unpacking.{HasCodesOf, HasFields}
use Rattle.im_bits.proofs.PackedLemmas.{codes_in-fit, codes_per_word-pos, code_in-words_of}

-- one code more is unpacked
pub unpack-more : (out codes : List ℕ) (first k code : ℕ) → k < length out → code ≡ get_or codes (first + k) 0 →
    ((j : ℕ) → j < k → get_or out j 0 ≡ get_or codes (first + j) 0) → (j : ℕ) → j < k + 1 → get_or (set out k code) j 0 ≡ get_or codes (first + j) 0
unpack-more out codes first k code inside is before j below =
    ⊎_elim (λ (under : j < k). let ne : j ≢ k = omega arith in get_or-set_other out k j code 0 ne ∙ before j under)
    (λ (at : k ≤ j). let e : j ≡ k = omega arith in
    ap (λ n. get_or (set out k code) n 0) e ∙ (get_or-set_same out k code 0 inside ∙ (is ∙ ap (λ n. get_or codes (first + n) 0) (sym e))))
    (cases_lt j k)

-- the code that a field of a word is
pub code_in-field : (width : ℕ) (words : List ℕ) (first j : ℕ) → j < codes_per_word width →
    code_in width words (first * codes_per_word width + j) ≡ slice_index words first / 2 ^ (j * width) % 2 ^ width
code_in-field width words first j low =
    let per = codes_per_word width in
    ap (λ q. slice_index words q / 2 ^ ((first * per + j) % per * width) % 2 ^ width) (div-mul-add first per j low)
    ∙ ap (λ r. slice_index words first / 2 ^ (r * width) % 2 ^ width) (mod-mul-add first per j low)

-- one word more is unpacked
pub unpack-word : (width : ℕ) (words old new : List ℕ) (first k word : ℕ) →
    HasCodesOf width words (first * codes_per_word width) (k * codes_per_word width) old → word ≡ slice_index words (first + k) →
    HasFields width word (k * codes_per_word width) (codes_per_word width) old new →
    HasCodesOf width words (first * codes_per_word width) ((k + 1) * codes_per_word width) new
unpack-word width words old new first k word before is has =
    let per = codes_per_word width in
    let end : (k + 1) * per ≡ k * per + per = add-mul k 1 per ∙ omega arith in
    record {
      codes = λ i below.
          ⊎_elim (λ (under : i < k * per). has.before i under ∙ before.codes i under)
          (λ (over : k * per ≤ i).
          let j = i - k * per in
          let low : j < per = omega (arith, end, below) in
          let at : k * per + j ≡ i = omega arith in
          let place : (first + k) * per + j ≡ first * per + i = omega (arith, add-mul first k per, at) in
          ap (λ n. slice_index new n) (sym at) ∙ (has.fields j low ∙ (ap (λ w. w / 2 ^ (j * width) % 2 ^ width) is
          ∙ (sym (code_in-field width words (first + k) j low) ∙ ap (code_in width words) place))))
          (cases_lt i (k * per));
    }

-- a code read from whole words is the one there, or 0 past the last one
pub unpack-read : (known width : ℕ) (words : List ℕ) (n : ℕ) (codes out : List ℕ) (first per k : ℕ) → width ≡ known → 0 < known → width ≤ 32 →
    codes_in width words n ≡ codes → words ≡ words_of width (codes_in width words n) → per ≡ codes_per_word known → k < 64 →
    HasCodesOf known words (first / per * codes_per_word known) (codes_per_word known + 63) out →
    slice_index out (first % per + k) ≡ get_or codes (first + k) 0
unpack-read known width words n codes out first per k same some most is canonical share below has =
    let fits : All (λ code. code < 2 ^ width) codes = rw (← is) (codes_in-fit width words n) in
    let words_is : words ≡ words_of width codes = canonical ∙ ap (words_of width) is in
    let pos : 0 < per = rw share (codes_per_word-pos known some (omega (arith, same, most))) in
    let low = mod_below first per pos in
    let place : first / per * codes_per_word known + (first % per + k) ≡ first + k = rw (← share) (omega (arith, div-add-mod' first per)) in
    has.codes (first % per + k) (omega (arith, low, share, below)) ∙ (ap (code_in known words) place
    ∙ (ap (λ w. code_in w words (first + k)) (sym same) ∙ (ap (λ ws. code_in width ws (first + k)) words_is
    ∙ code_in-words_of width codes (first + k) (omega (arith, same, some)) most fits)))

-- past the last code there is 0
pub zero-past : (codes : List ℕ) (first k : ℕ) → length codes - first ≤ k → 0 ≡ get_or codes (first + k) 0
zero-past codes first k past = sym (get_or_past codes (first + k) 0 (omega arith))

-- ---- blocks

-- the first word of a block, from one of its codes on
pub block-begins : (width : ℕ) (words old new : List ℕ) (first skipped word : ℕ) → skipped < codes_per_word width → word ≡ slice_index words first →
    HasFields width (word / 2 ^ (skipped * width)) 0 (codes_per_word width) old new →
    HasCodesOf width words (first * codes_per_word width + skipped) (1 * codes_per_word width - skipped) new
block-begins width words old new first skipped word low is has =
    let per = codes_per_word width in
    record {
      codes = λ i below.
          let within : skipped + i < per = omega (arith, below, low) in
          let here : i ≡ 0 + i = omega arith in
          let power : skipped * width + i * width ≡ (skipped + i) * width = sym (add-mul skipped i width) in
          let place : first * per + (skipped + i) ≡ first * per + skipped + i = omega arith in
          ap (slice_index new) here ∙ (has.fields i (omega (arith, within))
          ∙ (ap (λ w. w % 2 ^ width) (shr-shr word (skipped * width) (i * width) ∙ ap (λ p. word / 2 ^ p) power)
          ∙ (ap (λ w. w / 2 ^ ((skipped + i) * width) % 2 ^ width) is
          ∙ (sym (code_in-field width words first (skipped + i) within) ∙ ap (code_in width words) place))));
    }

-- one word more of a block
pub block-word : (width : ℕ) (words old new : List ℕ) (first skipped k word : ℕ) → skipped < codes_per_word width → 1 ≤ k →
    HasCodesOf width words (first * codes_per_word width + skipped) (k * codes_per_word width - skipped) old → word ≡ slice_index words (first + k) →
    HasFields width word (k * codes_per_word width - skipped) (codes_per_word width) old new →
    HasCodesOf width words (first * codes_per_word width + skipped) ((k + 1) * codes_per_word width - skipped) new
block-word width words old new first skipped k word low some before is has =
    let per = codes_per_word width in
    let at = k * per - skipped in
    let long : per ≤ k * per = omega (arith, mul-le-mul_right per some) in
    let end : (k + 1) * per ≡ k * per + per = add-mul k 1 per ∙ omega arith in
    record {
      codes = λ i below.
          ⊎_elim (λ (under : i < at). has.before i under ∙ before.codes i under)
          (λ (over : at ≤ i).
          let j = i - at in
          let few : j < per = omega (arith, end, below, long, low) in
          let there : at + j ≡ i = omega (arith, over) in
          let place : (first + k) * per + j ≡ first * per + skipped + i = omega (arith, add-mul first k per, there, long, low) in
          ap (λ n. slice_index new n) (sym there) ∙ (has.fields j few ∙ (ap (λ w. w / 2 ^ (j * width) % 2 ^ width) is
          ∙ (sym (code_in-field width words (first + k) j few) ∙ ap (code_in width words) place))))
          (cases_lt i at);
    }

-- a code of a block is the one there, or 0 past the last one
pub block-read : (known width : ℕ) (words : List ℕ) (n : ℕ) (codes out : List ℕ) (first per : ℕ) → width ≡ known → 0 < known → width ≤ 32 →
    codes_in width words n ≡ codes → words ≡ words_of width (codes_in width words n) → per ≡ codes_per_word known →
    HasCodesOf known words (first / per * codes_per_word known + first % per) 512 out → HasBlockFrom codes first out
block-read known width words n codes out first per same some most is canonical share has k below =
    let fits : All (λ code. code < 2 ^ width) codes = rw (← is) (codes_in-fit width words n) in
    let words_is : words ≡ words_of width codes = canonical ∙ ap (words_of width) is in
    let place : first / per * codes_per_word known + first % per + k ≡ first + k = rw (← share) (omega (arith, div-add-mod' first per)) in
    has.codes k below ∙ (ap (code_in known words) place
    ∙ (ap (λ w. code_in w words (first + k)) (sym same) ∙ (ap (λ ws. code_in width ws (first + k)) words_is
    ∙ code_in-words_of width codes (first + k) (omega (arith, same, some)) most fits)))

-- where the codes of a word of a mask lie in its block
pub block-at : (codes out : List ℕ) (place k : ℕ) → HasBlockFrom codes ((place / 8 + 1 - 1) * 512) out → k < 64 →
    get_or out (place % 8 * 64 + k) 0 ≡ get_or codes (place * 64 + k) 0
block-at codes out place k has below =
    let there : (place / 8 + 1 - 1) * 512 + (place % 8 * 64 + k) ≡ place * 64 + k = omega arith in
    has (place % 8 * 64 + k) (omega (arith, below)) ∙ ap (λ n. get_or codes n 0) there

pub block-share : (codes out : List ℕ) (place left : ℕ) → HasBlockFrom codes ((place / 8 + 1 - 1) * 512) out → place * 64 < length codes →
    left ≡ min (length codes - place * 64) 64 → length out ≡ 640 →
    take (place % 8 * 64 + left - place % 8 * 64) (drop (place % 8 * 64) out) ≡ take 64 (drop (place * 64) codes)
block-share codes out place left has inside is long =
    let at = place % 8 * 64 in
    let low : place % 8 < 8 = omega arith in
    let many : at + left - at ≡ left = omega arith in
    let size : length (take left (drop at out)) ≡ left = omega (arith, length-take left (drop at out), length-drop at out, is, long, low) in
    ap (λ n. take n (drop at out)) many
    ∙ same_lists (take left (drop at out)) (take 64 (drop (place * 64) codes))
    (omega (arith, size, is, length-take 64 (drop (place * 64) codes), length-drop (place * 64) codes)) (λ k d h.
    let few : k < left = omega (arith, size, h) in
    let below : k < 64 = omega (arith, few, is) in
    let there : at + k < length out = omega (arith, below, long, low) in
    let within : place * 64 + k < length codes = omega (arith, few, is) in
    get_or-take left (drop at out) k d few
    ∙ (get_or-drop at out k d ∙ (get_or_default out (at + k) d 0 there ∙ (block-at codes out place k has below
    ∙ (get_or_default codes (place * 64 + k) 0 d within ∙ sym (get_or-take 64 (drop (place * 64) codes) k d below ∙ get_or-drop (place * 64) codes k d))))))
