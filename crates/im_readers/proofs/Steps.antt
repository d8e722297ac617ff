-- One value more of a list, step by step.
use Rattle.std.proofs.Common.{◌≡◌, ℕ, zero, suc, ◌+◌, ◌-◌, ◌≤◌, ◌<◌, Bool, true, false, cond, List, [], ◌∷◌, ◌++◌, Some, None, refl, sym, ap, ◌∙◌, append_assoc, arith}
use Rattle.std.proofs.lemmas.List.{append-nil}
use Rattle.im_readers.specs.Reading.{Read, Found, Stopped, and_then, taken, behind_mark, both, all_others, further}
use Rattle.im_readers.specs.Answers.{Halts}
use Rattle.im_readers.specs.declared.halt.Halt.{Halt}
use Rattle.im_readers.specs.declared.halt.Halt.TheVariants.{Left, NoMemory}

module _ {T A : Type 0} (is : T → Bool) (p : List T → Read T A) where
  -- two values and what is behind them, read one after the other
  unfoldable pub flat : (r : Read T A) → (List T → Read T (List A)) → Read T (List A)
  flat r f = and_then r (λ a mid. and_then (f mid) (λ xs rest. Found (a ∷ xs) rest))

  -- what a mark before them adds
  unfoldable pub nested : Read T (A × List A) → Read T (List A)
  nested r = and_then (and_then (and_then (and_then {B = Unit {0} × (A × List A)} r (λ x rest. Found (tt, x) rest)) (λ x rest. Found x.1 rest))
      (λ x rest. Found (Some x) rest)) (λ o rest. Found (all_others o) rest)

  nested-inner : (a : A) (r : Read T (List A)) → nested (and_then r (λ xs rest. Found (a, xs) rest)) ≡ and_then r (λ xs rest. Found (a ∷ xs) rest)
  unfolding nested
  nested-inner a (Found xs rest) = refl
  nested-inner a (Stopped left) = refl

  nested-both : (r : Read T A) (f : List T → Read T (List A)) → nested (and_then r (λ a rest. and_then (f rest) (λ xs behind. Found (a, xs) behind))) ≡ flat r f
  unfolding flat nested
  nested-both (Found a mid) f = nested-inner a (f mid)
  nested-both (Stopped left) f = refl

  -- what stands behind a token that may be a mark
  unfoldable pub stepped : ℕ → T → List T → Bool → Read T (List A)
  stepped k t ts b =
      and_then (cond b (and_then (and_then
      (and_then (taken (cond b (Some tt) None) t ts)
      (λ u rest. and_then {B = Unit {0} × (A × List A)} (both p (further is p k) rest) (λ x behind. Found (u, x) behind))) (λ x rest. Found x.1 rest))
      (λ x rest. Found (Some x) rest)) (Found None (t ∷ ts))) (λ o rest. Found (all_others o) rest)

  pub further-step : (k : ℕ) (t : T) (ts : List T) (b : Bool) → is t ≡ b → further is p (suc k) (t ∷ ts) ≡ stepped k t ts b
  unfolding further stepped
  further-step k t ts b e = ap (λ (x : Bool). stepped k t ts x) e

  pub stepped-true : (k : ℕ) (t : T) (ts : List T) → stepped k t ts true ≡ flat (p ts) (further is p k)
  unfolding stepped nested
  stepped-true k t ts = nested-both (p ts) (further is p k)

-- what was read before, and what is still read
abbrev pub with_front : {T A : Type 0} → List A → Read T (List A) → Read T (List A)
with_front front read = and_then read (λ xs rest. Found (front ++ xs) rest)

module _ {T A : Type 0} (is : T → Bool) (p : List T → Read T A) (total : Read T (List A)) where
  one_more : (front : List A) (a : A) (r : Read T (List A)) → with_front front (and_then r (λ xs rest. Found (a ∷ xs) rest)) ≡ with_front (front ++ a ∷ []) r
  one_more front a (Found xs rest) = ap (λ (ys : List A). Found ys rest) (sym (append_assoc front (a ∷ []) xs))
  one_more front a (Stopped left) = refl

  at_mark : (k : ℕ) (t : T) (ts : List T) → is t ≡ true → further is p (suc k) (t ∷ ts) ≡ flat is p (p ts) (further is p k)
  at_mark k t ts e = further-step is p k t ts true e ∙ stepped-true is p k t ts

  marked_if : (b : Bool) (us vs : List T) → cond b (Some us) None ≡ Some vs → (b ≡ true) × (us ≡ vs)
  marked_if true us vs e = (refl, cc)
  marked_if false us vs e = absurd cc

  not_marked_if : (b : Bool) (us : List T) → cond b (Some us) None ≡ None → b ≡ false
  not_marked_if true us e = absurd cc
  not_marked_if false us e = refl

  at_behind : (k : ℕ) (ts us : List T) → behind_mark is ts ≡ Some us → further is p (suc k) ts ≡ flat is p (p us) (further is p k)
  at_behind k [] us e = absurd cc
  at_behind k (t ∷ ts) us e =
      let m = marked_if (is t) ts us e in
      at_mark k t ts m.0 ∙ ap (λ (vs : List T). flat is p (p vs) (further is p k)) m.1

  pub goes_on : (front : List A) (most i : ℕ) (ts us : List T) (a : A) (mid : List T) → i < most → behind_mark is ts ≡ Some us → p us ≡ Found a mid
      → with_front front (further is p (most - i) ts) ≡ total → with_front (front ++ a ∷ []) (further is p (most - (i + 1)) mid) ≡ total
  unfolding flat
  goes_on front most i ts us a mid lt e h so_far =
      let k : most - i ≡ suc (most - (i + 1)) = omega arith in
      let one : with_front front (further is p (most - i) ts) ≡ with_front (front ++ a ∷ []) (further is p (most - (i + 1)) mid) =
      rw (k, at_behind (most - (i + 1)) ts us e, h) (one_more front a (further is p (most - (i + 1)) mid)) in
      sym one ∙ so_far

  pub halts : (halt : Halt) (front : List A) (most i : ℕ) (ts us : List T) → i < most → behind_mark is ts ≡ Some us → Halts halt (p us)
      → with_front front (further is p (most - i) ts) ≡ total → Halts halt total
  unfolding flat
  halts NoMemory front most i ts us lt e h so_far = tt
  halts (Left left) front most i ts us lt e h so_far =
      let k : most - i ≡ suc (most - (i + 1)) = omega arith in
      let one : with_front front (further is p (most - i) ts) ≡ Stopped left = rw (k, at_behind (most - (i + 1)) ts us e, h) refl in
      sym so_far ∙ one

  further-no_mark : (k : ℕ) (ts : List T) → behind_mark is ts ≡ None → further is p k ts ≡ Found [] ts
  unfolding further stepped
  further-no_mark zero ts e = refl
  further-no_mark (suc k) [] e = refl
  further-no_mark (suc k) (t ∷ ts) e = further-step is p k t ts false (not_marked_if (is t) ts e)

  over : (front : List A) (k : ℕ) (rest : List T) → further is p k rest ≡ Found [] rest → with_front front (further is p k rest) ≡ total
      → total ≡ Found front rest
  over front k rest e so_far = sym so_far ∙ ap (λ (r : Read T (List A)). with_front front r) e ∙ ap (λ (xs : List A). Found xs rest) (append-nil front)

  pub is_over : (front : List A) (k : ℕ) (rest : List T) → behind_mark is rest ≡ None → with_front front (further is p k rest) ≡ total
      → total ≡ Found front rest
  is_over front k rest e so_far = over front k rest (further-no_mark k rest e) so_far

  pub is_full : (front : List A) (most i : ℕ) (rest : List T) → most ≤ i → with_front front (further is p (most - i) rest) ≡ total → total ≡ Found front rest
  unfolding further
  is_full front most i rest le so_far =
      let k : most - i ≡ 0 = omega arith in
      over front (most - i) rest (rw k refl) so_far
