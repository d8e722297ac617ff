-- Lists that one item was put behind, or in the place of another, seen by one place.
use Prim.Native.Nat.{zero, suc}
use Rattle.std.proofs.Common.{◌≡◌, ◌<◌, ◌+◌, arith, get_or, take, ℕ, List, [], ◌∷◌, ◌++◌, length, set, Option, Some, None, refl, sym, ap, ◌∙◌}
use Rattle.std.specs.Prelude.{slice_get}

-- what is seen stays, where the new item shows nothing
pub push-seen : {X Y : Type 0} (f : Option X → Y) (xs : List X) (x : X) (j : ℕ) → f (Some x) ≡ f None
    → f (slice_get (xs ++ x ∷ []) j) ≡ f (slice_get xs j)
push-seen f [] x zero same = same
push-seen f [] x (suc j) same = refl
push-seen f (y ∷ ys) x zero same = refl
push-seen f (y ∷ ys) x (suc j) same = push-seen f ys x j same

-- the new item stands behind the others
pub push-here : {X : Type 0} (xs : List X) (x : X) → slice_get (xs ++ x ∷ []) (length xs) ≡ Some x
push-here [] x = refl
push-here (y ∷ ys) x = push-here ys x

-- and the others stand where they stood
pub push-before : {X : Type 0} (xs : List X) (x : X) (j : ℕ) (y : X) → slice_get xs j ≡ Some y → slice_get (xs ++ x ∷ []) j ≡ Some y
push-before [] x j y is = absurd (cc is)
push-before (z ∷ zs) x zero y is = is
push-before (z ∷ zs) x (suc j) y is = push-before zs x j y is

-- what is seen stays, where the new item shows what the old one did
pub set-seen : {X Y : Type 0} (f : Option X → Y) (xs : List X) (k j : ℕ) (x y : X) → slice_get xs k ≡ Some x → f (Some y) ≡ f (Some x)
    → f (slice_get (set xs k y) j) ≡ f (slice_get xs j)
set-seen f [] k j x y is same = absurd (cc is)
set-seen f (z ∷ zs) zero zero x y is same = same ∙ ap f (sym is)
set-seen f (z ∷ zs) zero (suc j) x y is same = refl
set-seen f (z ∷ zs) (suc k) zero x y is same = refl
set-seen f (z ∷ zs) (suc k) (suc j) x y is same = set-seen f zs k j x y is same

-- the new item stands at its place
pub set-here : {X : Type 0} (xs : List X) (k : ℕ) (x y : X) → slice_get xs k ≡ Some x → slice_get (set xs k y) k ≡ Some y
set-here [] k x y is = absurd (cc is)
set-here (z ∷ zs) zero x y is = refl
set-here (z ∷ zs) (suc k) x y is = set-here zs k x y is

-- each other item stands where it stood
pub set-apart : {X : Type 0} (xs : List X) (k j : ℕ) (y : X) → (j ≡ k → ⊥) → slice_get (set xs k y) j ≡ slice_get xs j
set-apart [] k j y apart = refl
set-apart (z ∷ zs) zero zero y apart = absurd (apart refl)
set-apart (z ∷ zs) zero (suc j) y apart = refl
set-apart (z ∷ zs) (suc k) zero y apart = refl
set-apart (z ∷ zs) (suc k) (suc j) y apart = set-apart zs k j y (λ is. apart (ap suc is))

-- the item at a place is read there, and the place is one of the list
pub got : {X : Type 0} (xs : List X) (k : ℕ) (x d : X) → slice_get xs k ≡ Some x → get_or xs k d ≡ x
got [] k x d is = absurd (cc is)
got (y ∷ ys) zero x d is = cc is
got (y ∷ ys) (suc k) x d is = got ys k x d is

pub below : {X : Type 0} (xs : List X) (k : ℕ) (x : X) → slice_get xs k ≡ Some x → k < length xs
below [] k x is = absurd (cc is)
below (y ∷ ys) zero x is = omega arith
below (y ∷ ys) (suc k) x is = let less = below ys k x is in omega (arith, less)

-- the items so far and one more
pub take-next : {X : Type 0} (xs : List X) (i : ℕ) (d : X) → i < length xs → take (i + 1) xs ≡ take i xs ++ get_or xs i d ∷ []
take-next [] i d within = absurd (omega arith)
take-next (x ∷ xs) zero d within = refl
take-next (x ∷ xs) (suc i) d within =
    let next : suc i + 1 ≡ suc (i + 1) = omega arith in
    ap (λ (n : ℕ). take n (x ∷ xs)) next ∙ ap (λ l. x ∷ l) (take-next xs i d (omega (arith, within)))

-- and where the next one was read
pub take-got : {X : Type 0} (xs : List X) (i : ℕ) (x : X) → slice_get xs i ≡ Some x → take (i + 1) xs ≡ take i xs ++ x ∷ []
take-got xs i x is = take-next xs i x (below xs i x is) ∙ ap (λ (y : _). take i xs ++ y ∷ []) (got xs i x x is)
