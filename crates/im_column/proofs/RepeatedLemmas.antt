-- What a value comes to that stands so many times.
use Rattle.std.proofs.Common.{◌≡◌, ℕ, zero, suc, ℤ, pos, ◌+◌, ◌*◌, ◌+ℤ◌, ◌*ℤ◌, ◌<◌, ◌≤◌, Bool, false, cond, List, [], ◌∷◌, length, replicate, fold, sum_by, count_by, All, refl, sym, ap, subst, ◌∙◌, arith, mul-le-mul_right}
use Rattle.std.specs.Prelude.{slice_index_or}
use Rattle.std.specs.BTreeSet.{insert_key}
use Rattle.std.specs.Int.{div_ceil}
use Rattle.std.specs.Ordering.{is_eq, match_ordering, ordering_reverse}
use Rattle.std.specs.declared.cmp.Ordering.{Ordering}
use Rattle.std.specs.declared.cmp.Ordering.TheVariants.{Less, Equal, Greater}
use Rattle.std.proofs.Math.IntN.{+ℤ_idl, +ℤ_idr, suc_ℤ-*ℤ, zero-*ℤ}
use Rattle.std.proofs.lemmas.Grind.{div_ceil_times}
use Rattle.std.proofs.lemmas.Int.{ints}
use Rattle.std.proofs.lemmas.List.{get_or-replicate, length-replicate}
use Rattle.std.proofs.lemmas.List.Folds.{sum_by-replicate}
use Rattle.im_values.specs.declared.content.Content.{Content as Value}
use Rattle.im_values.specs.declared.content.Content.TheVariants.{Int, Text, Null}
use Rattle.im_values.specs.Order.{order, is_null}
use Rattle.im_values.specs.Sizes.{dictionary, value_bytes, width_from, width_for, words_for, run_count, run_count_after, plain_bytes, coded_bytes, runs_bytes}
use Rattle.im_values.proofs.ForCallers.{order_total}
use Rattle.im_bits.specs.Packed.{Packed}
use Rattle.im_codes.specs.Dictionary.{IsDictionaryOf, values_at}
use Rattle.im_codes.proofs.ForCallers.{dictionary-is}
use Rattle.im_column.specs.Summaries.{added, sum_of}
use Rattle.im_column.specs.declared.form.Kept.TheVariants as kept
use Rattle.im_column.specs.inner.Sized.{IsCountedFor, times_of}
use Rattle.im_column.proofs.SizeLemmas.{least-coded, least-runs}

-- ---- the dictionary

is-equal : (o : Ordering) → o ≡ ordering_reverse o → o ≡ Equal
is-equal Equal e = refl
is-equal Less e = absurd cc
is-equal Greater e = absurd cc

order-self : (v : Value) → order v v ≡ Equal
order-self v = is-equal (order v v) (order_total.antisymm v v)

pub dictionary-nulls : (n : ℕ) → dictionary (replicate n Null) ≡ []
dictionary-nulls zero = refl
dictionary-nulls (suc n) = dictionary-nulls n

once : (v : Value) → insert_key order (v ∷ []) v ≡ v ∷ []
once v = ap (λ (o : Ordering). match_ordering o (v ∷ v ∷ []) (v ∷ []) (v ∷ insert_key order [] v)) (order-self v)

pub dictionary-one : (v : Value) (n : ℕ) → is_null v ≡ false → dictionary (replicate (suc n) v) ≡ v ∷ []
dictionary-one (Int k) zero some = refl
dictionary-one (Int k) (suc n) some = ap (λ (l : List Value). insert_key order l (Int k)) (dictionary-one (Int k) n some) ∙ once (Int k)
dictionary-one (Text t) zero some = refl
dictionary-one (Text t) (suc n) some = ap (λ (l : List Value). insert_key order l (Text t)) (dictionary-one (Text t) n some) ∙ once (Text t)
dictionary-one Null n some = absurd cc

pub dictionary-many : (v : Value) (n : ℕ) → 64 < n → is_null v ≡ false → dictionary (replicate n v) ≡ v ∷ []
dictionary-many v zero many some = absurd (omega (arith, many))
dictionary-many v (suc n) many some = dictionary-one v n some

-- ---- the codes

values-same : (list : List Value) (n k : ℕ) → values_at list (replicate n k) ≡ replicate n (slice_index_or list k Null)
values-same list zero k = refl
values-same list (suc n) k = ap (λ (l : List Value). slice_index_or list k Null ∷ l) (values-same list n k)

pub all-same : {X : Type 0} (P : X → Type 0) (n : ℕ) (k : X) → P k → All P (replicate n k)
all-same P n k holds i d inside = subst P (sym (get_or-replicate n i k d (omega (arith, inside, length-replicate n k)))) holds

-- ---- the sizes

plain-same : (v : Value) (n : ℕ) → plain_bytes (replicate n v) ≡ n * value_bytes v
unfolding plain_bytes
plain-same v n = sum_by-replicate value_bytes n v

width-none : width_for 0 ≡ 0
unfolding width_from
width-none = refl

width-one : width_for 1 ≡ 1
unfolding width_from
width-one = refl

coded-nulls : (n : ℕ) → 0 ≡ coded_bytes (replicate n Null)
unfolding coded_bytes
coded-nulls n =
    sym (ap (λ (l : List Value). sum_by value_bytes l + 8 * words_for (length (replicate n Null)) (width_for (length l))) (dictionary-nulls n)
    ∙ ap (λ (w : ℕ). 0 + 8 * words_for (length (replicate n Null)) w) width-none)

after-same : (v : Value) (n : ℕ) → run_count_after v (replicate n v) ≡ 0
after-same v zero = refl
after-same v (suc n) =
    let rest = after-same v n in
    ap (λ (o : Ordering). cond (is_eq o) 0 1 + run_count_after v (replicate n v)) (order-self v) ∙ omega (arith, rest)

-- of many times a value the runs take the least bytes
some-bytes : (v : Value) → 1 ≤ value_bytes v
some-bytes (Int n) = omega arith
some-bytes (Text t) = omega arith
some-bytes Null = omega arith

many-bytes : (n b : ℕ) → 64 < n → 1 ≤ b → b + 8 < n * b
many-bytes n b many some =
    let more : 65 * b ≤ n * b = mul-le-mul_right b (omega (arith, many)) in
    omega (arith, more, some)

many-words : (n : ℕ) → 64 < n → 2 ≤ div_ceil n 64
many-words n many = let all = div_ceil_times n 64 in omega (arith, all, many)

runs-same : (v : Value) (n : ℕ) → is_null v ≡ false → value_bytes v + 8 ≡ runs_bytes (replicate (suc n) v)
unfolding runs_bytes
runs-same v n some =
    sym (ap (λ (l : List Value). sum_by value_bytes l + 8 * run_count (replicate (suc n) v)) (dictionary-one v n some)
    ∙ (ap (λ (k : ℕ). sum_by value_bytes (v ∷ []) + 8 * (1 + k)) (after-same v n) ∙ omega arith))

coded-same : (v : Value) (n : ℕ) → is_null v ≡ false → 64 < suc n → value_bytes v + 16 ≤ coded_bytes (replicate (suc n) v)
unfolding coded_bytes
coded-same v n some many =
    let is : sum_by value_bytes (dictionary (replicate (suc n) v)) + 8 * words_for (length (replicate (suc n) v)) (width_for (length (dictionary (replicate (suc n) v))))
    ≡ sum_by value_bytes (v ∷ []) + 8 * div_ceil (suc n) 64 =
    ap (λ (l : List Value). sum_by value_bytes l + 8 * words_for (length (replicate (suc n) v)) (width_for (length l))) (dictionary-one v n some)
    ∙ (ap (λ (w : ℕ). sum_by value_bytes (v ∷ []) + 8 * words_for (length (replicate (suc n) v)) w) width-one
    ∙ ap (λ (k : ℕ). sum_by value_bytes (v ∷ []) + 8 * div_ceil k 64) (length-replicate (suc n) v)) in
    let words = many-words (suc n) many in
    rw is (omega (arith, words))

-- ---- what is kept

pub nulls-counted : (n : ℕ) (dict : List Value) (bits : Packed) → 0 < n → IsDictionaryOf [] dict → bits ≡ record { width = 0; codes = replicate n 0 }
    → IsCountedFor (replicate n Null) (kept.Coded dict bits) 0
nulls-counted n dict bits some set is =
    let none : dict ≡ [] = dictionary-is [] dict set in
    let least = least-coded (replicate n Null) (plain_bytes (replicate n Null)) 0 (runs_bytes (replicate n Null))
    (record { plain = refl; coded = coded-nulls n; runs = refl }) (omega (arith, plain-same Null n, some)) (omega arith) in
    rw (none, is) (record {
      stands = values-same (Null ∷ []) n 0;
      kept = (
        least.0,
        record { is_dictionary = sym (dictionary-nulls n); are_codes = record { same = values-same (Null ∷ []) n 0; inside = all-same (λ k. k < 1) n 0 (omega arith) } },
        sym width-none,
      );
      least = least.1;
    })

pub run-counted : (v : Value) (n : ℕ) (dict : List Value) (runs : List ℕ) (bytes : ℕ) → 64 < n → is_null v ≡ false → IsDictionaryOf (v ∷ []) dict
    → runs ≡ replicate n 1 → bytes ≡ value_bytes v + 8 → IsCountedFor (replicate n v) (kept.Runs dict runs) bytes
run-counted v zero dict runs bytes many some set is size = absurd (omega (arith, many))
run-counted v (suc n) dict runs bytes many some set is size =
    let one : dict ≡ v ∷ [] = dictionary-is (v ∷ []) dict set ∙ dictionary-one v 0 some in
    let coded = coded-same v n some many in
    let plain = plain-same v (suc n) in
    let more = many-bytes (suc n) (value_bytes v) many (some-bytes v) in
    let least = least-runs (replicate (suc n) v) (plain_bytes (replicate (suc n) v)) (coded_bytes (replicate (suc n) v)) (value_bytes v + 8)
    (record { plain = refl; coded = refl; runs = runs-same v n some }) (omega (arith, more, plain)) (omega (arith, coded)) in
    rw (one, is, size) (record {
      stands = values-same (Null ∷ v ∷ []) (suc n) 1;
      kept = (
        least.0,
        record {
          is_dictionary = sym (dictionary-one v n some);
          are_codes = record { same = values-same (Null ∷ v ∷ []) (suc n) 1; inside = all-same (λ k. k < 2) (suc n) 1 (omega arith) };
        },
      );
      least = least.1;
    })

-- ---- what is counted and added up

pub nulls-all : (n : ℕ) → n ≡ count_by is_null (replicate n Null)
nulls-all n = sym (sum_by-replicate (λ (v : Value). cond (is_null v) 1 0) n Null ∙ omega arith)

pub nulls-none : (v : Value) (n : ℕ) → is_null v ≡ false → 0 ≡ count_by is_null (replicate n v)
nulls-none v n some =
    sym (sum_by-replicate (λ (v : Value). cond (is_null v) 1 0) n v ∙ (ap (λ (b : Bool). n * cond b 1 0) some ∙ omega arith))

fold-nulls : (n : ℕ) (s : ℤ) → fold added s (replicate n Null) ≡ s
fold-nulls zero s = refl
fold-nulls (suc n) s = fold-nulls n s

pub sum-nulls : (n : ℕ) → pos 0 ≡ sum_of (replicate n Null)
sum-nulls n = sym (fold-nulls n (pos 0))

fold-texts : (t : List ℕ) (n : ℕ) (s : ℤ) → fold added s (replicate n (Text t)) ≡ s
fold-texts t zero s = refl
fold-texts t (suc n) s = fold-texts t n s

sum-texts : (t : List ℕ) (n : ℕ) → pos 0 ≡ sum_of (replicate n (Text t))
sum-texts t n = sym (fold-texts t n (pos 0))

once-more : (s k : ℤ) (n : ℕ) → (s +ℤ k) +ℤ (pos n *ℤ k) ≡ s +ℤ (pos (suc n) *ℤ k)
once-more s k n = rw (suc_ℤ-*ℤ (pos n) k) (omega (arith, ints))

fold-numbers : (k : ℤ) (n : ℕ) (s : ℤ) → fold added s (replicate n (Int k)) ≡ s +ℤ (pos n *ℤ k)
fold-numbers k zero s = sym (ap (λ (z : ℤ). s +ℤ z) (zero-*ℤ k) ∙ +ℤ_idr s)
fold-numbers k (suc n) s = fold-numbers k n (s +ℤ k) ∙ once-more s k n

sum-numbers : (k : ℤ) (n : ℕ) → pos n *ℤ k ≡ sum_of (replicate n (Int k))
sum-numbers k n = sym (fold-numbers k n (pos 0) ∙ +ℤ_idl (pos n *ℤ k))

pub sum-times : (v : Value) (n : ℕ) → times_of n v ≡ sum_of (replicate n v)
sum-times (Int k) n = sum-numbers k n
sum-times (Text t) n = sum-texts t n
sum-times Null n = sum-nulls n
