-- Masks of a column, by its form.
use Rattle.std.proofs.Common.{◌≡◌, ℕ, ◌+◌, ◌-◌, ◌*◌, ◌<◌, ◌≤◌, min, replicate, Bool, true, false, cond, List, [], ◌∷◌, ◌++◌, length, take, drop, map, get_or, ⊎_elim, sym, refl, ap, subst, ◌∙◌, arith, length-append, length-drop, get_or-drop}
use Rattle.std.proofs.lemmas.Bool.{cases_lt, cases_Bool, lt-leb, le-leb, lt-ltb, le-ltb}
use Rattle.std.proofs.lemmas.List.{length-replicate, length-map, get_or-map, get_or_read, map_more, take_all, take_rest, take-map, drop-map, drop-drop, drop_at, drop_more, drop_all, get_or_append_left, get_or-replicate, get_or_past, get_or_default, same_lists}
use Rattle.im_values.specs.declared.content.Content.{Content as Value}
use Rattle.im_values.specs.declared.content.Content.TheVariants.{Null}
use Rattle.im_codes.specs.declared.run.Run.{Run}
use Rattle.im_codes.specs.Runs.{codes_from, AreFull}
use Rattle.im_lanes.specs.Masks.{word_at, word_of, filled}
use Rattle.im_lanes.proofs.ForCallers.{length-filled, get_or-filled}
use Rattle.im_codepred.specs.inner.Walk.{AreLeft, AreWalked}

-- one flag more
pub flags-more : (p : Value → Bool) (dict : List Value) (i : ℕ) (value : Value) (flags : List Bool) (flag : Bool) → i < length dict → value ≡ get_or dict i value →
    flag ≡ p value → flags ≡ p Null ∷ map p (take i dict) → flags ++ flag ∷ [] ≡ p Null ∷ map p (take (i + 1) dict)
flags-more p dict i value flags flag inside read is so_far =
    let same = get_or_read dict i value inside read Null in
    rw (so_far, is, map_more p dict i Null inside, ← same) refl

pub flags-all : (p : Value → Bool) (dict : List Value) (i : ℕ) (flags : List Bool) → length dict ≤ i → flags ≡ p Null ∷ map p (take i dict) → flags ≡ map p (Null ∷ dict)
flags-all p dict i flags over so_far = so_far ∙ ap (λ l. p Null ∷ map p l) (take_all i dict over)

-- the values that a word is made of
pub share-is : (values : List Value) (at end : ℕ) → end ≡ min (length values) (at + 64) → take (end - at) (drop at values) ≡ take 64 (drop at values)
share-is values at end is =
    ⊎_elim (λ (h : length values < at + 64).
    let whole : end ≡ length values = omega (arith, is, h) in
    let short : length (drop at values) ≤ 64 = omega (arith, length-drop at values, h) in
    ap (λ n. take (n - at) (drop at values)) whole ∙ (take_rest values at ∙ sym (take_all 64 (drop at values) short)))
    (λ (h : at + 64 ≤ length values). let some : end - at ≡ 64 = omega (arith, is, h) in ap (λ n. take n (drop at values)) some)
    (cases_lt (length values) (at + 64))

-- their word
pub word-of-share : (p : Value → Bool) (values part : List Value) (place word : ℕ) → part ≡ take 64 (drop (place * 64) values) → word ≡ word_of (map p part) →
    word ≡ word_at (map p values) place
word-of-share p values part place word are is =
    is ∙ (ap (λ l. word_of (map p l)) are
    ∙ ap word_of (sym (take-map p 64 (drop (place * 64) values)) ∙ ap (take 64) (sym (drop-map p (place * 64) values))))

-- ---- runs

pub left-begin : (codes : List ℕ) (runs : List Run) → codes_from 0 runs ≡ codes → AreFull 0 runs → AreLeft codes runs 0
left-begin codes runs are full = record { left = sym are; full = full; inside = omega arith }

pub walk-begin : (chosen : ℕ → Bool) (codes : List ℕ) (runs : List Run) (n : ℕ) (mask : List Bool) → codes_from 0 runs ≡ codes → AreFull 0 runs → n ≡ length codes →
    mask ≡ replicate n false → AreWalked chosen codes runs 0 mask
walk-begin chosen codes runs n mask are full long is = record {
  at = left-begin codes runs are full;
  size = ap length is ∙ (length-replicate n false ∙ long);
  done = λ k below. absurd (omega (arith, below));
  later = λ k from.
      ap (λ m. get_or m k false) is
      ∙ ⊎_elim (λ (h : k < n). get_or-replicate n k false false h) (λ (h : n ≤ k). get_or_past (replicate n false) k false (omega (arith, length-replicate n false, h)))
      (cases_lt k n);
}

-- what the first run that is left says
pub record RunFits (codes : List ℕ) (begin : ℕ) (run : Run) : Type 0 where
  pub some : begin < run.end
  pub inside : run.end ≤ length codes
  pub same : (k : ℕ) → begin ≤ k → k < run.end → get_or codes k 0 ≡ run.code

pub run-fits : (codes : List ℕ) (run : Run) (runs : List Run) (begin : ℕ) → AreLeft codes (run ∷ runs) begin → RunFits codes begin run
run-fits codes run runs begin walked =
    let some : begin < run.end = walked.full.0 in
    let part = replicate (run.end - begin) run.code in
    let size = length-replicate (run.end - begin) run.code in
    let long : length codes - begin ≡ run.end - begin + length (codes_from run.end runs) =
    sym (length-drop begin codes) ∙ (ap length walked.left ∙ (length-append part (codes_from run.end runs) ∙ ap (λ n. n + length (codes_from run.end runs)) size)) in
    record {
      some = some;
      inside = omega (arith, long, some, walked.inside);
      same = λ k from below.
          let place : begin + (k - begin) ≡ k = omega (arith, from) in
          let low : k - begin < run.end - begin = omega (arith, from, below) in
          ap (λ j. get_or codes j 0) (sym place) ∙ (sym (get_or-drop begin codes (k - begin) 0) ∙ (ap (λ l. get_or l (k - begin) 0) walked.left
          ∙ (get_or_append_left part (codes_from run.end runs) 0 (k - begin) (omega (arith, size, low)) ∙ get_or-replicate (run.end - begin) (k - begin) run.code 0 low)));
    }

run-left : (codes : List ℕ) (run : Run) (runs : List Run) (begin : ℕ) → AreLeft codes (run ∷ runs) begin → drop run.end codes ≡ codes_from run.end runs
run-left codes run runs begin walked =
    let fits = run-fits codes run runs begin walked in
    let end : begin + (run.end - begin) ≡ run.end = omega (arith, fits.some) in
    ap (λ n. drop n codes) (sym end) ∙ (sym (drop-drop (run.end - begin) begin codes) ∙ (ap (drop (run.end - begin)) walked.left
    ∙ drop_at (replicate (run.end - begin) run.code) (codes_from run.end runs) (run.end - begin) (length-replicate (run.end - begin) run.code)))

-- the runs behind the first
pub left-next : (codes : List ℕ) (run : Run) (runs : List Run) (begin : ℕ) → AreLeft codes (run ∷ runs) begin → AreLeft codes runs run.end
left-next codes run runs begin walked = record {
  left = run-left codes run runs begin walked;
  full = walked.full.1;
  inside = (run-fits codes run runs begin walked).inside;
}

-- a run that is not chosen
pub walk-past : (chosen : ℕ → Bool) (codes : List ℕ) (run : Run) (runs : List Run) (begin : ℕ) (mask : List Bool) → AreWalked chosen codes (run ∷ runs) begin mask →
    chosen run.code ≡ false → AreWalked chosen codes runs run.end mask
walk-past chosen codes run runs begin mask walked no_one =
    let fits = run-fits codes run runs begin walked.at in
    record {
      at = left-next codes run runs begin walked.at;
      size = walked.size;
      done = λ k below.
          ⊎_elim (λ (h : k < begin). walked.done k h)
          (λ (h : begin ≤ k). walked.later k h ∙ (sym no_one ∙ ap chosen (sym (fits.same k h below))))
          (cases_lt k begin);
      later = λ k from. walked.later k (omega (arith, from, fits.some));
    }

-- a run that is
pub walk-chosen : (chosen : ℕ → Bool) (codes : List ℕ) (run : Run) (runs : List Run) (begin : ℕ) (mask : List Bool) → AreWalked chosen codes (run ∷ runs) begin mask →
    chosen run.code ≡ true → AreWalked chosen codes runs run.end (filled begin run.end mask)
walk-chosen chosen codes run runs begin mask walked each =
    let fits = run-fits codes run runs begin walked.at in
    let order : begin ≤ run.end = omega (arith, fits.some) in
    let within : run.end ≤ length mask = omega (arith, fits.inside, walked.size) in
    record {
      at = left-next codes run runs begin walked.at;
      size = length-filled begin run.end mask order within ∙ walked.size;
      done = λ k below.
          get_or-filled begin run.end k mask order within
          ∙ ⊎_elim (λ (h : k < begin). rw (lt-leb begin k h) (walked.done k h))
          (λ (h : begin ≤ k). rw (le-leb begin k h, lt-ltb k run.end below) (sym each ∙ ap chosen (sym (fits.same k h below))))
          (cases_lt k begin);
      later = λ k from.
          let old = walked.later k (omega (arith, from, fits.some)) in
          get_or-filled begin run.end k mask order within ∙ rw (le-leb begin k (omega (arith, from, fits.some)), le-ltb k run.end from) old;
    }

pub walk-run : (chosen : ℕ → Bool) (codes : List ℕ) (run : Run) (runs : List Run) (begin : ℕ) (mask new : List Bool) → AreWalked chosen codes (run ∷ runs) begin mask →
    new ≡ cond (chosen run.code) (filled begin run.end mask) mask → AreWalked chosen codes runs run.end new
walk-run chosen codes run runs begin mask new walked is =
    let P : List Bool → Type 0 = λ m. AreWalked chosen codes runs run.end m in
    ⊎_elim (λ (h : chosen run.code ≡ true). subst P (sym (is ∙ ap (λ b. cond b (filled begin run.end mask) mask) h)) (walk-chosen chosen codes run runs begin mask walked h))
    (λ (h : chosen run.code ≡ false). subst P (sym (is ∙ ap (λ b. cond b (filled begin run.end mask) mask) h)) (walk-past chosen codes run runs begin mask walked h))
    (cases_Bool (chosen run.code))

-- the next run of a list
pub walk-next : (chosen : ℕ → Bool) (codes : List ℕ) (runs : List Run) (i begin : ℕ) (d : Run) (mask : List Bool) → i < length runs →
    AreWalked chosen codes (drop i runs) begin mask → AreWalked chosen codes (get_or runs i d ∷ drop (i + 1) runs) begin mask
walk-next chosen codes runs i begin d mask inside walked =
    let P : List Run → Type 0 = λ rs. AreWalked chosen codes rs begin mask in
    subst P (drop_more runs i d inside) walked

-- the end of the walk
pub walk-end : (chosen : ℕ → Bool) (codes : List ℕ) (runs : List Run) (i begin : ℕ) (mask : List Bool) → length runs ≤ i →
    AreWalked chosen codes (drop i runs) begin mask → mask ≡ map chosen codes
walk-end chosen codes runs i begin mask over walked =
    let none = walked.at.left ∙ ap (codes_from begin) (drop_all i runs over) in
    let all : length codes ≤ begin = omega (arith, ap length none, length-drop begin codes) in
    same_lists mask (map chosen codes) (walked.size ∙ sym (length-map codes chosen)) (λ k d h.
    let low : k < length codes = omega (arith, walked.size, h) in
    get_or_default mask k d false h ∙ (walked.done k (omega (arith, all, low, walked.at.inside, h)) ∙ sym (get_or-map chosen codes k 0 d low)))
