-- Words and the codes in them.
use Rattle.std.proofs.Common.{◌≡◌, ℕ, zero, suc, ◌+◌, ◌*◌, ◌/◌, ◌%◌, ◌^◌, ◌<◌, ◌≤◌, List, [], ◌∷◌, ◌++◌, length, drop, get_or, slice_index, All, ⊎_elim, sym, refl, ap, ◌∙◌, arith, pow_pos, pow-add, mul_assoc, add_comm, add-mul, suc-mul, zero-mul, div-one, take, bit_or, le_trans, mul-le-mul_right, div-mul-le_self, length-take, length-take-le, replicate, get_or-drop, get_or-take, div-add-mod'}
use Rattle.std.specs.Int.{div_ceil}
use Rattle.std.proofs.lemmas.Grind.{div_ceil_times}
use Rattle.std.proofs.Math.Nat.{zero-div, zero-mod}
use Rattle.std.proofs.lemmas.List.{length-replicate, get_or-replicate, same_lists, get_or_default, get_or_past, get_or_read, take_more, take_all}
use Rattle.std.proofs.lemmas.Bool.{cases_lt}
use Rattle.std.proofs.lemmas.Bool.Decides.{nat_tests}
use Rattle.std.proofs.lemmas.List.Elements.{All-head, All-tail, All-take, All-drop}
use Rattle.std.proofs.lemmas.List.FromFn.{length-map-range_with_len, get_or-map-range_with_len}
use Rattle.std.proofs.lemmas.Nat.{mod_below, shr_high, mod_low, shr-shr, mul-add-lt, le-div, div_below, shl_whole, or_comm, or_shifted}
use Rattle.im_bits.specs.Packed.{word_of, words_of, words_for, share_of, code_in, codes_in, codes_per_word}

pub length-codes_in : (width : ℕ) (words : List ℕ) (n : ℕ) → length (codes_in width words n) ≡ n
unfolding codes_in
length-codes_in width words n = length-map-range_with_len (code_in width words) 0 n

pub get_or-codes_in : (width : ℕ) (words : List ℕ) (n i d : ℕ) → i < n → get_or (codes_in width words n) i d ≡ code_in width words i
unfolding codes_in
get_or-codes_in width words n i d h = get_or-map-range_with_len (code_in width words) 0 n i i d h (omega arith)

-- what is read fits its width
pub codes_in-fit : (width : ℕ) (words : List ℕ) (n : ℕ) → All (λ code. code < 2 ^ width) (codes_in width words n)
codes_in-fit width words n k d h =
    let inside : k < n = omega (arith, length-codes_in width words n, h) in
    rw (get_or-codes_in width words n k d inside) (mod_below _ _ (pow_pos width))

-- one more code stands above those before it
pub word_of-push : (width : ℕ) (codes : List ℕ) (code : ℕ) → word_of width (codes ++ code ∷ []) ≡ word_of width codes + code * 2 ^ (length codes * width)
word_of-push width [] code = rw (zero-mul (2 ^ width), zero-mul width) (omega arith)
word_of-push width (first ∷ codes) code =
    let more = word_of-push width codes code in
    let power : 2 ^ (length (first ∷ codes) * width) ≡ 2 ^ (length codes * width) * 2 ^ width =
    ap (λ k. 2 ^ k) (omega (arith, suc-mul (length codes) width)) ∙ pow-add 2 (length codes * width) width in
    rw (more, power, add-mul (word_of width codes) (code * 2 ^ (length codes * width)) (2 ^ width), mul_assoc code (2 ^ (length codes * width)) (2 ^ width))
    (omega arith)

-- a word of fitting codes has no more bits than they have
pub word_of-below : (width : ℕ) (codes : List ℕ) → All (λ code. code < 2 ^ width) codes → word_of width codes < 2 ^ (length codes * width)
word_of-below width [] fit = pow_pos _
word_of-below width (code ∷ codes) fit =
    let rest = word_of-below width codes (All-tail (λ c. c < 2 ^ width) code codes fit) in
    let here = All-head (λ c. c < 2 ^ width) code codes fit in
    let power : 2 ^ (length (code ∷ codes) * width) ≡ 2 ^ width * 2 ^ (length codes * width) = ap (λ k. 2 ^ k) (omega (arith, suc-mul (length codes) width))
    ∙ pow-add 2 width (length codes * width) in
    rw power (omega (arith, mul-add-lt (word_of width codes) (2 ^ width) code (2 ^ (length codes * width)) rest here))

-- the field at a place of a word is the code at that place
pub field-word_of : (width : ℕ) (codes : List ℕ) (j : ℕ) → All (λ code. code < 2 ^ width) codes →
    word_of width codes / 2 ^ (j * width) % 2 ^ width ≡ get_or codes j 0
field-word_of width [] j fit = rw (zero-div (2 ^ (j * width))) (zero-mod (2 ^ width))
field-word_of width (code ∷ codes) zero fit =
    let here = All-head (λ c. c < 2 ^ width) code codes fit in
    rw (zero-mul width, div-one, add_comm code (word_of width codes * 2 ^ width)) (mod_low (word_of width codes) width code here)
field-word_of width (code ∷ codes) (suc j) fit =
    let here = All-head (λ c. c < 2 ^ width) code codes fit in
    let rest = field-word_of width codes j (All-tail (λ c. c < 2 ^ width) code codes fit) in
    let place : suc j * width ≡ width + j * width = omega (arith, suc-mul j width) in
    let up : (code + word_of width codes * 2 ^ width) / 2 ^ (suc j * width) ≡ word_of width codes / 2 ^ (j * width) =
    rw (
      place,
      add_comm code (word_of width codes * 2 ^ width),
      ← shr-shr (word_of width codes * 2 ^ width + code) width (j * width),
      shr_high
          (word_of width codes) width code here,
    ) refl in
    rw up rest

pub words_for-is : (n width : ℕ) → 0 < width → words_for n width ≡ div_ceil n (codes_per_word width)
words_for-is n width some = grind (arith, nat_tests)

-- a word holds some code
pub codes_per_word-pos : (width : ℕ) → 0 < width → width ≤ 32 → 0 < codes_per_word width
codes_per_word-pos width some most = le-div 1 64 width some (omega arith)

-- the word of a code is one of the words
pub place-inside : (width n i : ℕ) → 0 < width → width ≤ 32 → i < n → i / codes_per_word width < words_for n width
place-inside width n i some most inside =
    let per = codes_per_word width in
    let pos = codes_per_word-pos width some most in
    let enough = (div_ceil_times n per pos).0 in
    rw (words_for-is n width some) (div_below i per (div_ceil n per) pos (omega arith))

pub length-words_of : (width : ℕ) (codes : List ℕ) → length (words_of width codes) ≡ words_for (length codes) width
unfolding words_of
length-words_of width codes = length-map-range_with_len (λ place. word_of width (share_of width codes place)) 0 (words_for (length codes) width)

pub get_or-words_of : (width : ℕ) (codes : List ℕ) (k d : ℕ) → k < words_for (length codes) width →
    get_or (words_of width codes) k d ≡ word_of width (share_of width codes k)
unfolding words_of
get_or-words_of width codes k d inside =
    get_or-map-range_with_len (λ place. word_of width (share_of width codes place)) 0 (words_for (length codes) width) k k d inside (omega arith)

-- a word begins inside the list
pub share-begins : (width n k : ℕ) → 0 < width → width ≤ 32 → k < words_for n width → k * codes_per_word width < n
share-begins width n k some most inside =
    let per = codes_per_word width in
    let pos = codes_per_word-pos width some most in
    let few = (div_ceil_times n per pos).1 in
    let count : k + 1 ≤ div_ceil n per = omega (arith, words_for-is n width some, inside) in
    let more = mul-le-mul_right per count in
    omega (arith, few, more, add-mul k 1 per)

-- the codes of a word fill no more than its bits
pub share-few : (width : ℕ) (codes : List ℕ) (k : ℕ) → 0 < width → length (share_of width codes k) * width ≤ 64
share-few width codes k some =
    let per = codes_per_word width in
    let rest = drop (k * per) codes in
    let few : length (share_of width codes k) ≤ per = omega (arith, length-take per rest) in
    le_trans (mul-le-mul_right width few) (div-mul-le_self 64 width)

pub share-fit : (width : ℕ) (codes : List ℕ) (k : ℕ) → All (λ code. code < 2 ^ width) codes → All (λ code. code < 2 ^ width) (share_of width codes k)
share-fit width codes k fit =
    All-take (λ code. code < 2 ^ width) (codes_per_word width) (drop (k * codes_per_word width) codes)
    (All-drop (λ code. code < 2 ^ width) (k * codes_per_word width) codes fit)

-- one more code is put above those that stand in the word
pub word_of-more : (width : ℕ) (codes : List ℕ) (i word code : ℕ) → i < length codes → length codes * width ≤ 64 → All (λ c. c < 2 ^ width) codes →
    word ≡ word_of width (take i codes) → code ≡ get_or codes i 0 →
    bit_or word (code * 2 ^ (i * width) % 18446744073709551616) ≡ word_of width (take (i + 1) codes)
word_of-more width codes i word code inside few fit so_far is =
    let fits : code < 2 ^ width = rw is (fit i 0 inside) in
    let above : width + i * width ≤ 64 = omega (arith, few, mul-le-mul_right width inside, add-mul i 1 width, suc-mul i width) in
    let whole : code * 2 ^ (i * width) % 18446744073709551616 ≡ code * 2 ^ (i * width) = shl_whole code width (i * width) 64 fits above in
    let below : word < 2 ^ (i * width) =
    rw so_far (rw (length-take-le i codes (omega arith)) at (word_of-below width (take i codes) (All-take (λ c. c < 2 ^ width) i codes fit))) in
    let more = word_of-push width (take i codes) code in
    rw (
      whole,
      or_comm word (code * 2 ^ (i * width)),
      or_shifted code (i * width) word below,
      take_more codes i 0 inside,
      ← is,
      more,
      length-take-le i codes
          (omega arith),
      ← so_far,
    ) (omega arith)

-- past the words there is no code
pub past-words : (width n i : ℕ) → 0 < width → width ≤ 32 → words_for n width ≤ i / codes_per_word width → n ≤ i
past-words width n i some most past =
    ⊎_elim (λ (inside : i < n). let there = place-inside width n i some most inside in omega (arith, there, past)) (λ (over : n ≤ i). over) (cases_lt i n)

-- the code at a place is found in its word, and 0 past the last one
pub code_in-words_of : (width : ℕ) (codes : List ℕ) (i : ℕ) → 0 < width → width ≤ 32 → All (λ code. code < 2 ^ width) codes →
    code_in width (words_of width codes) i ≡ get_or codes i 0
code_in-words_of width codes i some most fit =
    let per = codes_per_word width in
    let pos = codes_per_word-pos width some most in
    let q = i / per in
    let r = i % per in
    let low = mod_below i per pos in
    ⊎_elim (λ (there : q < words_for (length codes) width).
    let word = get_or-words_of width codes q 0 there in
    rw word (field-word_of width (share_of width codes q) r (share-fit width codes q fit)
    ∙ (get_or-take per (drop (q * per) codes) r 0 low
    ∙ (get_or-drop (q * per) codes r 0 ∙ ap (λ k. get_or codes k 0) (div-add-mod' i per)))))
    (λ (past : words_for (length codes) width ≤ q).
    let none = get_or_past (words_of width codes) q 0 (omega (arith, length-words_of width codes, past)) in
    let over = get_or_past codes i 0 (past-words width (length codes) i some most past) in
    rw (none, over, zero-div (2 ^ (r * width)), zero-mod (2 ^ width)) refl)
    (cases_lt q (words_for (length codes) width))

-- what was packed is read back
pub codes_in-words_of : (width : ℕ) (codes : List ℕ) → width ≤ 32 → All (λ code. code < 2 ^ width) codes →
    codes_in width (words_of width codes) (length codes) ≡ codes
codes_in-words_of zero codes most fit =
    same_lists _ _ (length-codes_in zero (words_of zero codes) (length codes)) (λ k d h.
    let inside : k < length codes = omega (arith, length-codes_in zero (words_of zero codes) (length codes), h) in
    let low = codes_in-fit zero (words_of zero codes) (length codes) k d h in
    let fits = fit k d inside in
    omega (arith, low, fits))
codes_in-words_of (suc width) codes most fit =
    same_lists _ _ (length-codes_in (suc width) (words_of (suc width) codes) (length codes)) (λ k d h.
    let inside : k < length codes = omega (arith, length-codes_in (suc width) (words_of (suc width) codes) (length codes), h) in
    get_or-codes_in (suc width) (words_of (suc width) codes) (length codes) k d inside
    ∙ (code_in-words_of (suc width) codes k (omega arith) most fit ∙ get_or_default codes k 0 d inside))

-- without bits each code is 0
pub get-zero : (width : ℕ) (words : List ℕ) (n : ℕ) (codes : List ℕ) (i : ℕ) → codes_in width words n ≡ codes → width ≡ 0 → i < length codes →
    0 ≡ slice_index codes i
get-zero width words n codes i is none inside =
    let fits : All (λ code. code < 2 ^ width) codes = rw (← is) (codes_in-fit width words n) in
    let here : slice_index codes i < 2 ^ 0 = rw none at (fits i 0 inside) in
    omega (arith, here)

-- the word of a code is among the words
pub get-inside : (width : ℕ) (words : List ℕ) (n : ℕ) (codes : List ℕ) (i share : ℕ) → codes_in width words n ≡ codes →
    words ≡ words_of width (codes_in width words n) → 0 < width → width ≤ 32 → i < length codes → share ≡ codes_per_word width → i / share < length words
get-inside width words n codes i share is canonical some most inside per =
    let count : length words ≡ words_for (length codes) width = ap length canonical
    ∙ (length-words_of width (codes_in width words n) ∙ ap (λ l. words_for (length l) width) is) in
    rw (count, per) (place-inside width (length codes) i some most inside)

-- the field that is read is the code
pub get-code : (width : ℕ) (words : List ℕ) (n : ℕ) (codes : List ℕ) (i share word result : ℕ) → codes_in width words n ≡ codes → i < length codes →
    share ≡ codes_per_word width → i / share < length words → word ≡ get_or words (i / share) word → result ≡ word / 2 ^ (i % share * width) % 2 ^ width →
    result ≡ slice_index codes i
get-code width words n codes i share word result is inside per there read field =
    let within : i < n = omega (arith, length-codes_in width words n, ap length is, inside) in
    let at_zero = get_or_read words (i / share) word there read 0 in
    field ∙ (ap (λ w. w / 2 ^ (i % share * width) % 2 ^ width) at_zero
    ∙ (ap (λ s. slice_index words (i / s) / 2 ^ (i % s * width) % 2 ^ width) per
    ∙ (sym (get_or-codes_in width words n i 0 within) ∙ ap (λ l. slice_index l i) is)))

-- one more word
pub words_of-more : (width : ℕ) (codes : List ℕ) (k count : ℕ) (words : List ℕ) (word : ℕ) → count ≡ words_for (length codes) width → k < count →
    words ≡ take k (words_of width codes) → word ≡ word_of width (share_of width codes k) → words ++ word ∷ [] ≡ take (k + 1) (words_of width codes)
words_of-more width codes k count words word is inside so_far next =
    let there : k < words_for (length codes) width = rw is at inside in
    let long : k < length (words_of width codes) = omega (arith, length-words_of width codes, there) in
    rw (take_more (words_of width codes) k 0 long, get_or-words_of width codes k 0 there, ← next, ← so_far) refl

-- all the words
pub words_of-all : (width : ℕ) (codes : List ℕ) (k count : ℕ) (words : List ℕ) → count ≡ words_for (length codes) width → count ≤ k →
    words ≡ take k (words_of width codes) → words ≡ words_of width codes
words_of-all width codes k count words is past so_far = so_far ∙ take_all k (words_of width codes) (omega (arith, length-words_of width codes, is, past))

-- where there is a word, a code has bits
pub some-bits : (n width k : ℕ) → k < words_for n width → 0 < width
some-bits n width k inside = grind (arith, nat_tests)

-- codes of no bits are 0, and fill no word
pub codes_in-zeros : (n : ℕ) → codes_in 0 [] n ≡ replicate n 0
codes_in-zeros n =
    same_lists _ _ (length-codes_in 0 [] n ∙ sym (length-replicate n 0)) (λ k d inside.
    let here : k < n = omega (arith, inside, length-codes_in 0 [] n) in
    get_or-codes_in 0 [] n k d here ∙ (zero_code k ∙ sym (get_or-replicate n k 0 d here)))
  where
    zero_code : (k : ℕ) → code_in 0 [] k ≡ 0
    zero_code k = rw (zero-div (2 ^ (k % codes_per_word 0 * 0))) (zero-mod (2 ^ 0))

pub words_of-zeros : (codes : List ℕ) → words_of 0 codes ≡ []
unfolding words_of
words_of-zeros codes = refl
