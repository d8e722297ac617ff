-- Sums over lists and ranges.
use Rattle.std.proofs.Common.{◌≡◌, ℕ, zero, suc, ◌+◌, ◌≤◌, List, [], ◌∷◌, length, map, get_or, sum_by, refl, sym, ap, ◌∙◌, arith}
use Rattle.std.specs.List.{flat_map, range_with_len}
use Rattle.std.proofs.lemmas.List.Sums.{sum_by-append, sum_by-cons}

pub sum-mapped : {X Y : Type 0} (f : Y → ℕ) (g : X → Y) (xs : List X) → sum_by f (map g xs) ≡ sum_by (λ x. f (g x)) xs
sum-mapped f g [] = refl
sum-mapped f g (x ∷ xs) =
    omega (arith, sum_by-cons f (g x) (map g xs), sum_by-cons (λ x. f (g x)) x xs, sum-mapped f g xs)

pub sum-flat : {X Y : Type 0} (f : Y → ℕ) (g : X → List Y) (xs : List X) → sum_by f (flat_map g xs) ≡ sum_by (λ x. sum_by f (g x)) xs
sum-flat f g [] = refl
sum-flat f g (x ∷ xs) =
    omega (arith, sum_by-append f (g x) (flat_map g xs), sum_by-cons (λ x. sum_by f (g x)) x xs, sum-flat f g xs)

-- equal terms, equal sums
pub sum-same : {X : Type 0} (f g : X → ℕ) (xs : List X) → ((x : X) → f x ≡ g x) → sum_by f xs ≡ sum_by g xs
sum-same f g [] same = refl
sum-same f g (x ∷ xs) same = omega (arith, sum_by-cons f x xs, sum_by-cons g x xs, same x, sum-same f g xs same)

places_from : {X : Type 0} (f : X → ℕ) (g : ℕ → ℕ) (xs : List X) (d : X) (a : ℕ) → ((i : ℕ) → f (get_or xs i d) ≡ g (a + i)) →
    sum_by f xs ≡ sum_by g (range_with_len a (length xs))
places_from f g [] d a same = refl
places_from f g (x ∷ xs) d a same =
    let first : a + 0 ≡ a = omega arith in
    let here : f x ≡ g a = same 0 ∙ ap g first in
    let rest = places_from f g xs d (a + 1) (λ i. let next : a + suc i ≡ a + 1 + i = omega arith in same (suc i) ∙ ap g next) in
    omega (arith, sum_by-cons f x xs, sum_by-cons g a (range_with_len (a + 1) (length xs)), here, rest)

-- a list is summed by its places
pub sum-places : {X : Type 0} (f : X → ℕ) (g : ℕ → ℕ) (xs : List X) (d : X) → ((i : ℕ) → f (get_or xs i d) ≡ g i) →
    sum_by f xs ≡ sum_by g (range_with_len 0 (length xs))
sum-places f g xs d same = places_from f g xs d 0 (λ i. let here : i ≡ 0 + i = omega arith in same i ∙ ap g here)

-- a range without terms
sum-zeros : (f : ℕ → ℕ) (a n : ℕ) → ((k : ℕ) → a ≤ k → f k ≡ 0) → sum_by f (range_with_len a n) ≡ 0
sum-zeros f a zero none = refl
sum-zeros f a (suc n) none =
    omega (arith, sum_by-cons f a (range_with_len (a + 1) n), none a (omega arith), sum-zeros f (a + 1) n (λ k past. none k (omega (arith, past))))

-- where there are no more terms, a longer range has the same sum
sum-padded : (f : ℕ → ℕ) (a n more : ℕ) → ((k : ℕ) → a + n ≤ k → f k ≡ 0) → sum_by f (range_with_len a (n + more)) ≡ sum_by f (range_with_len a n)
sum-padded f a zero more none =
    let whole : zero + more ≡ more = omega arith in
    ap (λ (l : ℕ). sum_by f (range_with_len a l)) whole ∙ sum-zeros f a more (λ k past. none k (omega (arith, past)))
sum-padded f a (suc n) more none =
    let whole : suc n + more ≡ suc (n + more) = omega arith in
    let longer = ap (λ (l : ℕ). sum_by f (range_with_len a l)) whole in
    omega (
      arith,
      longer,
      sum_by-cons f a (range_with_len (a + 1) (n + more)),
      sum_by-cons f a (range_with_len (a + 1) n),
      sum-padded f (a + 1) n more (λ k past. none k (omega (arith, past))),
    )

-- two ranges behind which there are no terms have the same sum
pub sum-ends : (f : ℕ → ℕ) (n m : ℕ) → ((k : ℕ) → n ≤ k → f k ≡ 0) → ((k : ℕ) → m ≤ k → f k ≡ 0) →
    sum_by f (range_with_len 0 n) ≡ sum_by f (range_with_len 0 m)
sum-ends f n m behind_n behind_m =
    let turned : n + m ≡ m + n = omega arith in
    sym (sum-padded f 0 n m (λ k past. behind_n k (omega (arith, past))))
    ∙ (ap (λ (l : ℕ). sum_by f (range_with_len 0 l)) turned ∙ sum-padded f 0 m n (λ k past. behind_m k (omega (arith, past))))
