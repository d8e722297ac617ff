-- Lists that are read item by item.
use Prim.Native.Nat.{zero, suc}
use Rattle.std.proofs.Common.{◌≡◌, ◌∷◌, ◌++◌, ◌+◌, [], ℕ, List, Some, map, take, ap, ◌∙◌, arith}
use Rattle.std.specs.Prelude.{slice_get}

-- the item behind those that were read
pub map-take-read : {X Y : Type 0} (f : X → Y) (xs : List X) (i : ℕ) (x : X) → slice_get xs i ≡ Some x
    → map f (take (i + 1) xs) ≡ map f (take i xs) ++ f x ∷ []
map-take-read f [] i x is = absurd (cc is)
map-take-read f (y ∷ ys) zero x is = ap (λ z. f z ∷ []) (cc is)
map-take-read f (y ∷ ys) (suc i) x is =
    let next : suc i + 1 ≡ suc (i + 1) = omega arith in
    ap (λ (n : ℕ). map f (take n (y ∷ ys))) next ∙ ap (λ l. f y ∷ l) (map-take-read f ys i x is)
