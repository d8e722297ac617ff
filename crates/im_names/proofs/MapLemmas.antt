-- A list that is made element by element.
use Rattle.std.proofs.Common.{◌≡◌, ℕ, ◌+◌, ◌<◌, ◌≤◌, List, [], ◌∷◌, ◌++◌, length, get_or, take, map, refl, sym, ap, ◌∙◌, arith}
use Rattle.std.proofs.lemmas.List.{take_more, take_all, map-append, map-id}
use Rattle.std.proofs.lemmas.List.FromFn.{map-range_with_len_more}
use Rattle.std.specs.List.{range_with_len}
use Rattle.im_syntax.specs.Condition.{TermOf, ConjOf, conj_of, cond_of}
use Rattle.im_names.specs.Conditions.{term_map, conj_map, cond_map}

-- one more element
pub map_goes : {A B : Type 0} (g : A → B) (xs : List A) (i : ℕ) (x : A) (ys new : List B) (y : B)
    → i < length xs → x ≡ get_or xs i x → y ≡ g x → new ≡ ys ++ y ∷ [] → ys ≡ map g (take i xs) → new ≡ map g (take (i + 1) xs)
map_goes g xs i x ys new y lt e is_image grown made =
    let split : take (i + 1) xs ≡ take i xs ++ x ∷ [] = take_more xs i x lt ∙ ap (λ z. take i xs ++ z ∷ []) (sym e) in
    let image : map g (take (i + 1) xs) ≡ map g (take i xs) ++ g x ∷ [] = ap (map g) split ∙ map-append g (take i xs) (x ∷ []) in
    grown ∙ ap (λ zs. zs ++ y ∷ []) made ∙ ap (λ z. map g (take i xs) ++ z ∷ []) is_image ∙ sym image

-- all elements
pub map_ends : {A B : Type 0} (g : A → B) (xs : List A) (i : ℕ) (ys : List B) → length xs ≤ i → ys ≡ map g (take i xs) → ys ≡ map g xs
map_ends g xs i ys le made = made ∙ ap (map g) (take_all i xs le)

-- the numbers below the next one
pub range_more : (n : ℕ) → range_with_len 0 (n + 1) ≡ range_with_len 0 n ++ n ∷ []
range_more n =
    sym (map-id (range_with_len 0 (n + 1))) ∙ map-range_with_len_more (λ k. k) 0 n n (omega arith) ∙ ap (λ ks. ks ++ n ∷ []) (map-id (range_with_len 0 n))

-- a map over the numbers below the next one
pub range_goes : {B : Type 0} (g : ℕ → B) (n : ℕ) (ys new : List B) (y : B) → y ≡ g n → new ≡ ys ++ y ∷ [] → ys ≡ map g (range_with_len 0 n)
    → new ≡ map g (range_with_len 0 (n + 1))
range_goes g n ys new y is_image grown made =
    grown ∙ ap (λ zs. zs ++ y ∷ []) made ∙ ap (λ z. map g (range_with_len 0 n) ++ z ∷ []) is_image ∙ sym (map-range_with_len_more g 0 n n (omega arith))

-- a map over the parts of a conjunction or a condition
module _ {C D V W : Type 0} (f : C → D) (g : V → W) where
  pub conj_map-of : (ts : List (TermOf C V)) → conj_of (map (term_map f g) ts) ≡ conj_map f g (conj_of ts)
  conj_map-of [] = refl
  conj_map-of (t ∷ ts) = cc (conj_map-of ts)

  pub cond_map-of : (cs : List (ConjOf C V)) → cond_of (map (conj_map f g) cs) ≡ cond_map f g (cond_of cs)
  cond_map-of [] = refl
  cond_map-of (c ∷ cs) = cc (cond_map-of cs)
