-- Values that are lent one after another.
use Rattle.std.proofs.Common.{◌≡◌, ◌≢◌, ℕ, zero, suc, ◌+◌, ◌<◌, ◌≤◌, List, [], ◌∷◌, length, map, set, get_or, refl, sym, ap, ◌∙◌, ⊎_elim, arith}
use Rattle.std.proofs.lemmas.Bool.{cases_lt}
use Rattle.std.proofs.lemmas.List.{get_or-map, get_or-set_same, get_or-set_other, length-map, length-set}
use Rattle.std.specs.Borrow.{Bor}
use Rattle.im_values.specs.declared.content.Content.{Content as Value}
use Rattle.im_values.specs.declared.content.Content.TheVariants.{Null}
use Rattle.im_codes.specs.Dictionary.{lent}
use Rattle.im_column.specs.Forms.{AreLent}

-- as many values are lent as there are
pub length-lent : (values : List (Bor Value)) → length (lent values) ≡ length values
length-lent values = length-map values (λ (value : Bor Value). value.now)

-- a lent value at its place
pub lent-at : (values : List (Bor Value)) (i : ℕ) (value : Bor Value) (d : Value) → i < length values → value ≡ get_or values i value →
    value.now ≡ get_or (lent values) i d
lent-at values i value d inside is =
    ap (λ (v : Bor Value). v.now) is ∙ sym (get_or-map (λ (v : Bor Value). v.now) values i value d inside)

map-set : {A B : Type 0} (f : A → B) (xs : List A) (i : ℕ) (x : A) → map f (set xs i x) ≡ set (map f xs) i (f x)
map-set f [] i x = refl
map-set f (y ∷ xs) zero x = refl
map-set f (y ∷ xs) (suc i) x = ap (λ l. f y ∷ l) (map-set f xs i x)

-- one value more is lent
lent-more : (value_at : ℕ → Value) (out : List (Bor Value)) (k : ℕ) (value : Bor Value) → k < length out → value.now ≡ value_at k →
    AreLent value_at k (lent out) → AreLent value_at (k + 1) (lent (set out k value))
lent-more value_at out k value inside is before j below =
    let put = map-set (λ (v : Bor Value). v.now) out k value in
    ap (λ (l : List Value). get_or l j Null) put
    ∙ ⊎_elim (λ (under : j < k). let ne : j ≢ k = omega arith in get_or-set_other (lent out) k j value.now Null ne ∙ before j under)
    (λ (at : k ≤ j). let e : j ≡ k = omega arith in
    ap (λ n. get_or (set (lent out) k value.now) n Null) e
    ∙ (get_or-set_same (lent out) k value.now Null (omega (arith, length-map out (λ (v : Bor Value). v.now), inside)) ∙ (is ∙ ap value_at (sym e))))
    (cases_lt j k)

-- so many of 64 places are lent
pub record AreLentTo (value_at : ℕ → Value) (k : ℕ) (out : List (Bor Value)) : Type 0 where
  pub size : length out ≡ 64
  pub lends : AreLent value_at k (lent out)

pub lent_to-more : (value_at : ℕ → Value) (out : List (Bor Value)) (k : ℕ) (value : Bor Value) → k < 64 → value.now ≡ value_at k →
    AreLentTo value_at k out → AreLentTo value_at (k + 1) (set out k value)
lent_to-more value_at out k value below is before = record {
  size = omega (arith, length-set out k value, before.size);
  lends = lent-more value_at out k value (omega (arith, below, before.size)) is before.lends;
}
