-- From a reader to the whole input: a value of all the tokens, or the place where they leave the grammar.
use Rattle.std.proofs.Common.{◌≡◌, ℕ, zero, suc, ◌-◌, ◌≤◌, ◌<◌, Bool, false, List, [], ◌∷◌, ◌++◌, length, length-append, take, refl, sym, ap, subst, ◌∙◌, append_assoc, arith}
use Rattle.std.proofs.lemmas.List.{append-nil, take_at}
use Rattle.im_readers.specs.Reading.{Read, Found, Stopped, ended, all_of}
use Rattle.im_readers.specs.Grammar.{Ends, at_end, at_other, SameFirst, one_first, BeginsGood, Takes, Stops, ParseResult, Reads, IsLongest}

-- a front that is longer than another has the token behind that one
take-past : {T : Type 0} (front : List T) (t : T) (rest : List T) (m : ℕ) → length front < m
    → take m (front ++ t ∷ rest) ≡ front ++ t ∷ take (m - suc (length front)) rest
take-past [] t rest zero lt = absurd (omega arith)
take-past {T = T} [] t rest (suc m) lt = let n : m ≡ suc m - suc 0 = omega arith in ap (λ (n : ℕ). t ∷ take n rest) n
take-past (x ∷ front) t rest zero lt = absurd (omega arith)
take-past {T = T} (x ∷ front) t rest (suc m) lt =
    let n : m - suc (length front) ≡ suc m - suc (suc (length front)) = omega arith in
    ap (λ (us : List T). x ∷ us) (take-past front t rest m (omega arith) ∙ ap (λ (n : ℕ). front ++ t ∷ take n rest) n)

module _ {T A : Type 0} {spell : A → List T} {good : A → Type 0} where
  longest : (front rest : List T) → BeginsGood spell good front
      → ((t : T) (us vs : List T) → rest ≡ t ∷ us → BeginsGood spell good (front ++ t ∷ vs) → ⊥)
      → IsLongest spell good (front ++ rest) (length front)
  longest front rest begun no_more = record {
    within = omega (arith, length-append front rest);
    begins = subst (λ (x : List T). BeginsGood spell good x) (sym (take_at front rest (length front) refl)) begun;
    longer = λ m lt le b. longer_at rest refl m lt le b;
  }
    where
      longer_at : (us : List T) → rest ≡ us → (m : ℕ) → length front < m → m ≤ length (front ++ rest) → BeginsGood spell good (take m (front ++ rest)) → ⊥
      longer_at [] e m lt le b = omega (arith, length-append front rest, ap length e)
      longer_at (t ∷ us) e m lt le b =
          no_more t us (take (m - suc (length front)) us) e
          (subst (λ (x : List T). BeginsGood spell good x) (ap (λ (x : List T). take m (front ++ x)) e ∙ take-past front t us m lt) b)

module _ {T A : Type 0} {spell : A → List T} {good : A → Type 0} {goes : A → T → Bool} {p : List T → Read T A} (lp : Reads spell good goes p) where
  -- the spelling of a good value is read whole
  read_alone : (a : A) → good a → p (spell a) ≡ Found a []
  read_alone a g = ap p (sym (append-nil (spell a))) ∙ lp.whole a [] g at_end

  begun_more : (front : List T) (t : T) (vs : List T) (b : BeginsGood spell good (front ++ t ∷ vs)) → p (front ++ t ∷ (vs ++ b.more)) ≡ Found b.of []
  begun_more front t vs b = ap p (sym (append_assoc front (t ∷ vs) b.more)) ∙ ap p (sym b.spells) ∙ read_alone b.of b.is_good

  pub all_only : (a : A) → good a → all_of p (spell a) ≡ Found a []
  all_only a g = ap (λ (r : Read T A). ended r) (read_alone a g)

  found_is : (ts : List T) (r : Read T A) → ParseResult spell good goes p ts r → (a : A) (rest : List T) → ended r ≡ Found a rest → (ts ≡ spell a) × good a
  found_is ts (Found a []) o b rest e =
      let same : a ≡ b = cc in
      subst (λ (x : A). (ts ≡ spell x) × good x) same (o.parts ∙ append-nil (spell a), o.is_good)
  found_is ts (Found a (t ∷ us)) o b rest e = absurd cc
  found_is ts (Stopped left) o b rest e = absurd cc

  pub all_found : (ts : List T) (a : A) (rest : List T) → all_of p ts ≡ Found a rest → (ts ≡ spell a) × good a
  all_found ts a rest e = found_is ts (p ts) (lp.answers ts) a rest e

  more_behind : (ts : List T) (a : A) (t : T) (us : List T) → Takes spell good goes ts a (t ∷ us) → goes a t ≡ false
      → IsLongest spell good ts (length (spell a))
  more_behind ts a t us o e =
      subst (λ (x : List T). IsLongest spell good x (length (spell a))) (sym o.parts)
      (longest (spell a) (t ∷ us) (record { of = a; is_good = o.is_good; more = []; spells = sym (append-nil (spell a)) })
      (λ t2 us2 vs same b.
      let first : t ≡ t2 = cc in
      let found : p (spell a ++ t2 ∷ (vs ++ b.more)) ≡ Found a (t2 ∷ (vs ++ b.more)) =
      lp.whole a (t2 ∷ (vs ++ b.more)) o.is_good (at_other t2 (vs ++ b.more) (ap (λ (x : T). goes a x) (sym first) ∙ e)) in
      let twice : Found a (t2 ∷ (vs ++ b.more)) ≡ Found b.of [] = sym found ∙ begun_more (spell a) t2 vs b in
      (cc)))

  stopped_at : (ts : List T) (left : ℕ) (o : Stops spell good p ts left) → IsLongest spell good ts (length o.front)
  stopped_at ts left o =
      subst (λ (x : List T). IsLongest spell good x (length o.front)) (sym o.parts)
      (longest o.front o.rest o.begun
      (λ t us vs same b.
      let stops : p (o.front ++ t ∷ (vs ++ b.more)) ≡ Stopped (length (t ∷ (vs ++ b.more))) =
      o.again (t ∷ (vs ++ b.more)) (subst (λ (x : List T). SameFirst x (t ∷ (vs ++ b.more))) (sym same) (one_first t us (vs ++ b.more))) in
      let twice : Stopped (length (t ∷ (vs ++ b.more))) ≡ Found b.of [] = sym stops ∙ begun_more o.front t vs b in
      (cc)))

  -- the place where reading stops, counted from its end
  pub record Place (ts : List T) (left : ℕ) : Type 0 where
    pub within : left ≤ length ts
    pub longest : IsLongest spell good ts (length ts - left)

  other_fails : (a : A) (t : T) (us : List T) → Ends (goes a) (t ∷ us) → goes a t ≡ false
  other_fails a t us (at_other v vs e) = e

  place_is : (ts : List T) (r : Read T A) → ParseResult spell good goes p ts r → (left : ℕ) → ended r ≡ Stopped left → Place ts left
  place_is ts (Found a []) o left e = absurd cc
  place_is ts (Found a (t ∷ us)) o left e =
      let is : length (t ∷ us) ≡ left = cc in
      let n : length (spell a) ≡ length ts - left = omega (arith, ap length o.parts, length-append (spell a) (t ∷ us)) in
      record {
        within = omega (arith, ap length o.parts, length-append (spell a) (t ∷ us));
        longest = subst (λ (k : ℕ). IsLongest spell good ts k) n (more_behind ts a t us o (other_fails a t us o.ends));
      }
  place_is ts (Stopped stopped) o left e =
      let is : stopped ≡ left = cc in
      let count : stopped ≡ length o.rest = o.count in
      let n : length o.front ≡ length ts - left = omega (arith, ap length o.parts, length-append o.front o.rest) in
      record {
        within = omega (arith, ap length o.parts, length-append o.front o.rest);
        longest = subst (λ (k : ℕ). IsLongest spell good ts k) n (stopped_at ts stopped o);
      }

  pub all_place : (ts : List T) (left : ℕ) → all_of p ts ≡ Stopped left → Place ts left
  all_place ts left e = place_is ts (p ts) (lp.answers ts) left e

  -- two good values of one spelling are one
  pub one_value : (a b : A) → good a → good b → spell a ≡ spell b → a ≡ b
  one_value a b ga gb e =
      let twice : Found a [] ≡ Found b [] = sym (read_alone a ga) ∙ ap p e ∙ read_alone b gb in
      (cc)
