-- Values none of which is an empty text, cut into tuples.
use Rattle.std.proofs.Common.{◌≡◌, ℕ, zero, suc, ◌+◌, Bool, true, false, ◌&&◌, List, [], ◌∷◌, ◌++◌, map, take, drop, Option, Some, slice_get, refl, ap, ◌∙◌, arith}
use Rattle.std.specs.List.{list_all}
use Rattle.im_values.specs.declared.content.Content.{Content as Value}
use Rattle.im_values.specs.Stretches.{cut}
use Rattle.im_syntax.specs.declared.literal.Lit.{Lit}
use Rattle.im_syntax.specs.Tuples.{is_proper, AreProper, lit_of, written}

-- both hold where both are asked together
pub both : (a b : Bool) → (a && b) ≡ true → (a ≡ true) × (b ≡ true)
both true true e = (refl, refl)
both true false e = absurd cc
both false b e = absurd cc

taken : {X : Type 0} (p : X → Bool) (n : ℕ) (xs : List X) → list_all p xs ≡ true → list_all p (take n xs) ≡ true
taken p zero xs e = refl
taken p (suc n) [] e = refl
taken p (suc n) (x ∷ xs) e = let two = both (p x) (list_all p xs) e in rw (two.0, taken p n xs two.1) refl

dropped : {X : Type 0} (p : X → Bool) (n : ℕ) (xs : List X) → list_all p xs ≡ true → list_all p (drop n xs) ≡ true
dropped p zero xs e = e
dropped p (suc n) [] e = refl
dropped p (suc n) (x ∷ xs) e = dropped p n xs (both (p x) (list_all p xs) e).1

each_proper : (count width : ℕ) (values : List Value) → list_all is_proper values ≡ true → list_all (list_all is_proper) (cut count width values) ≡ true
each_proper zero width values e = refl
each_proper (suc count) width values e =
    rw (taken is_proper width values e, each_proper count width (drop width values) (dropped is_proper width values e)) refl

pub cut_proper : (count width : ℕ) (values : List Value) → list_all is_proper values ≡ true → AreProper (cut count width values)
cut_proper count width values e = record { each = each_proper count width values e }

-- one row more is one tuple more that is written
pub written-next : (rows : List (List Value)) (at : ℕ) (row : List Value) → slice_get rows at ≡ Some row
    → written (take (at + 1) rows) ≡ written (take at rows) ++ map lit_of row ∷ []
written-next [] at row is = absurd (cc is)
written-next (r ∷ rows) zero row is =
    let same : r ≡ row = cc is in
    ap (λ (values : List Value). map lit_of values ∷ []) same
written-next (r ∷ rows) (suc at) row is =
    let next : suc at + 1 ≡ suc (at + 1) = omega arith in
    ap (λ (n : ℕ). written (take n (r ∷ rows))) next
    ∙ ap (λ (tuples : List (List Lit)). map lit_of r ∷ tuples) (written-next rows at row is)
