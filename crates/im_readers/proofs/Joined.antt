-- The law of lists with marks between their values.
use Rattle.std.proofs.Common.{◌≡◌, ℕ, zero, suc, ◌+◌, ◌≤◌, ◌<◌, Bool, true, false, cond, List, [], ◌∷◌, ◌++◌, length, length-append, Option, Some, None, refl, sym, ap, ◌∙◌, arith}
use Rattle.std.specs.Prelude.{◌||◌}
use Rattle.std.specs.List.{AllByRecursion}
use Rattle.im_readers.specs.Reading.{Read, Found, Stopped, and_then, both, made, after, optional, with_first, all_others, further, others, joined, joined_up_to}
use Rattle.im_readers.specs.Grammar.{Ends, at_end, at_other, begins_with, Takes, ParseResult, Reads, goes_both, goes_optional, spell_both, spell_optional, GoodBoth, GoodOptional, spell_others, spell_joined, UpTo, is_nil, GoodJoined, GoodJoinedUpTo, goes_further, goes_others, goes_joined, goes_joined_up_to}
use Rattle.im_readers.proofs.Steps.{flat, stepped, further-step, stepped-true}
use Rattle.im_readers.proofs.Parts.{IsMark, Makes, both_law, made_law, after_law, optional_law}

module _ {T A : Type 0} {w : T} {is : T → Bool} {s : A → List T} {g : A → Type 0} {e : A → T → Bool} {p : List T → Read T A}
    (m : IsMark w is) (lp : Reads s g e p) (apart : (a : A) → g a → e a w ≡ false) where
  apart_others : (a : A) (xs : List A) → g a → Ends (e a) (spell_others w s xs)
  apart_others a [] good = at_end
  apart_others a (x ∷ xs) good = at_other w (s x ++ spell_others w s xs) (apart a good)

  -- ---- at most so many

  none_answers : (ts : List T) → ParseResult (spell_others w s) (UpTo 0 g) (goes_further w is s e 0) (further is p 0) ts (further is p 0 ts)
  unfolding further
  none_answers ts = record { parts = refl; is_good = record { each = tt; count = omega arith }; ends = Ends-none ts }
    where
      Ends-none : (us : List T) → Ends (goes_further w is s e 0 []) us
      Ends-none [] = at_end
      Ends-none (t ∷ us) = at_other t us refl

  none_whole : (xs : List A) (rest : List T) → UpTo 0 g xs → Ends (goes_further w is s e 0 xs) rest
      → further is p 0 (spell_others w s xs ++ rest) ≡ Found xs rest
  unfolding further
  none_whole [] rest good ends = refl
  none_whole (x ∷ xs) rest good ends = absurd (omega arith)

  further_none : Reads (spell_others w s) (UpTo 0 g) (goes_further w is s e 0) (further is p 0)
  further_none = record { some = []; some_good = record { each = tt; count = omega arith }; answers = none_answers; whole = none_whole }

  up_to_forth : (k : ℕ) (o : Option (A × List A)) → GoodOptional (GoodBoth g (UpTo k g)) o → UpTo (suc k) g (all_others o)
  up_to_forth k None good = record { each = tt; count = omega arith }
  up_to_forth k (Some x) good = record { each = (good.0, good.1.each); count = omega arith }

  up_to_back : (k : ℕ) (xs : List A) → UpTo (suc k) g xs → Makes all_others (GoodOptional (GoodBoth g (UpTo k g))) xs
  up_to_back k [] good = record { of = None; is = refl; is_good = tt }
  up_to_back k (x ∷ xs) good = record { of = Some (x, xs); is = refl; is_good = (good.each.0, record { each = good.each.1; count = omega arith }) }

  others_spells : (o : Option (A × List A)) → spell_others w s (all_others o) ≡ spell_optional (λ x. w ∷ spell_both s (spell_others w s) x) o
  others_spells None = refl
  others_spells (Some x) = refl

  further_goes : (k : ℕ) (o : Option (A × List A)) (t : T)
      → goes_further w is s e (suc k) (all_others o) t ≡ goes_optional is (goes_both (spell_others w s) e (goes_further w is s e k)) o t
  further_goes k None t = refl
  further_goes k (Some x) t = refl

  further_more : (k : ℕ) → Reads (spell_others w s) (UpTo k g) (goes_further w is s e k) (further is p k)
      → Reads (spell_others w s) (UpTo (suc k) g) (goes_further w is s e (suc k)) (made all_others (optional is (after is (both p (further is p k)))))
  further_more k less =
      made_law (spell_others w s) (UpTo (suc k) g) (goes_further w is s e (suc k)) all_others
      (optional_law is (after_law m (both_law lp less (λ a xs good _. apart_others a xs good)))
      (λ x good. begins_with w (spell_both s (spell_others w s) x) m.itself))
      (up_to_forth k) (up_to_back k) others_spells (further_goes k)

  pub further_law : (k : ℕ) → Reads (spell_others w s) (UpTo k g) (goes_further w is s e k) (further is p k)
  unfolding further
  further_law zero = further_none
  further_law (suc k) = further_more k (further_law k)

  joined_up_to_back : (k : ℕ) (xs : List A) → GoodJoinedUpTo k g xs → Makes with_first (GoodBoth g (UpTo k g)) xs
  joined_up_to_back k [] good = absurd good.0
  joined_up_to_back k (x ∷ xs) good = record { of = (x, xs); is = refl; is_good = (good.1.each.0, record { each = good.1.each.1; count = omega arith }) }

  pub joined_up_to_law : (k : ℕ) → Reads (spell_joined w s) (GoodJoinedUpTo k g) (goes_joined_up_to k w is s e) (joined_up_to k is p)
  joined_up_to_law k =
      made_law (spell_joined w s) (GoodJoinedUpTo k g) (goes_joined_up_to k w is s e) with_first
      (both_law lp (further_law k) (λ a xs good _. apart_others a xs good))
      (λ x good. (tt, record { each = (good.0, good.1.each); count = omega arith }))
      (joined_up_to_back k) (λ x. refl) (λ x t. refl)

  -- ---- as many as there are

  length-mid : (ts : List T) (a : A) (mid : List T) → Takes s g e ts a mid → length mid ≤ length ts
  length-mid ts a mid o = omega (arith, ap length o.parts, length-append (s a) mid)

  -- where reading stops, it does not stop for want of room
  rest_stops : (r : Read T (List A)) (a : A) (n : ℕ) → and_then r (λ xs rest. Found (a ∷ xs) rest) ≡ Stopped n → r ≡ Stopped n
  rest_stops (Found xs rest) a n e = absurd cc
  rest_stops (Stopped left) a n e = cc

  flat_stops : (j k : ℕ) (ts : List T) (n : ℕ) (r : Read T A) → ParseResult s g e p ts r → length ts ≤ k
      → ((mid : List T) → length mid ≤ k → further is p j mid ≡ Stopped n → further is p k mid ≡ Stopped n)
      → flat is p r (further is p j) ≡ Stopped n → flat is p r (further is p k) ≡ Stopped n
  unfolding flat
  flat_stops j k ts n (Stopped left) o le more h = h
  flat_stops j k ts n (Found a mid) o le more h =
      ap (λ (r : Read T (List A)). and_then r (λ xs rest. Found (a ∷ xs) rest))
      (more mid (omega (arith, length-mid ts a mid o)) (rest_stops (further is p j mid) a n h))

  stepped_stops : (j k : ℕ) (t : T) (ts : List T) (n : ℕ) (b : Bool) → length ts ≤ k
      → ((mid : List T) → length mid ≤ k → further is p j mid ≡ Stopped n → further is p k mid ≡ Stopped n)
      → stepped is p j t ts b ≡ Stopped n → stepped is p k t ts b ≡ Stopped n
  unfolding stepped
  stepped_stops j k t ts n true le more h = stepped-true is p k t ts ∙ flat_stops j k ts n (p ts) (lp.answers ts) le more (sym (stepped-true is p j t ts) ∙ h)
  stepped_stops j k t ts n false le more h = absurd cc

  further_stops : (j k : ℕ) (ts : List T) (n : ℕ) → further is p j ts ≡ Stopped n → length ts ≤ k → further is p k ts ≡ Stopped n
  unfolding further
  further_stops zero k ts n h le = absurd cc
  further_stops (suc j) k [] n h le = absurd cc
  further_stops (suc j) zero (t ∷ ts) n h le = absurd (omega arith)
  further_stops (suc j) (suc k) (t ∷ ts) n h le =
      further-step is p k t ts (is t) refl
      ∙ stepped_stops j k t ts n (is t) (omega arith) (λ mid short stops. further_stops j k mid n stops short) (sym (further-step is p j t ts (is t) refl) ∙ h)

  length-others : (xs : List A) → length xs ≤ length (spell_others w s xs)
  length-others [] = omega arith
  length-others (x ∷ xs) = omega (arith, length-others xs, length-append (s x) (spell_others w s xs))

  goes-enough : (k : ℕ) (xs : List A) (t : T) → length xs < k → goes_others w is s e xs t ≡ goes_further w is s e k xs t
  goes-enough zero xs t lt = absurd (omega arith)
  goes-enough (suc k) [] t lt = refl
  goes-enough (suc k) (x ∷ xs) t lt = ap (λ (b : Bool). cond (is_nil (spell_others w s xs)) (e x t || b) b) (goes-enough k xs t (omega arith))

  Ends-enough : (k : ℕ) (xs : List A) (rest : List T) → length xs + length rest ≤ k → Ends (goes_further w is s e k xs) rest
      → Ends (goes_others w is s e xs) rest
  Ends-enough k xs [] le ends = at_end
  Ends-enough k xs (t ∷ rest) le (at_other u us ends) = at_other t rest (goes-enough k xs t (omega arith) ∙ ends)

  Ends-room : (k : ℕ) (xs : List A) (rest : List T) → length xs + length rest ≤ k → Ends (goes_others w is s e xs) rest → Ends (goes_further w is s e k xs) rest
  Ends-room k xs [] le ends = at_end
  Ends-room k xs (t ∷ rest) le (at_other u us ends) = at_other t rest (sym (goes-enough k xs t (omega arith)) ∙ ends)

  others_answers : (ts : List T) (r : Read T (List A)) → further is p (length ts) ts ≡ r
      → ParseResult (spell_others w s) (UpTo (length ts) g) (goes_further w is s e (length ts)) (further is p (length ts)) ts r
      → ParseResult (spell_others w s) (AllByRecursion g) (goes_others w is s e) (others is p) ts r
  unfolding others
  others_answers ts (Found xs rest) h o = record {
    parts = o.parts;
    is_good = o.is_good.each;
    ends = Ends-enough (length ts) xs rest (omega (arith, ap length o.parts, length-append (spell_others w s xs) rest, length-others xs)) o.ends;
  }
  others_answers ts (Stopped left) h o = record {
    front = o.front;
    rest = o.rest;
    parts = o.parts;
    count = o.count;
    begun = record { of = o.begun.of; is_good = o.begun.is_good.each; more = o.begun.more; spells = o.begun.spells };
    again = λ other same. further_stops (length ts) (length (o.front ++ other)) (o.front ++ other) (length other) (o.again other same) (omega arith);
  }

  others_whole : (xs : List A) (rest : List T) → AllByRecursion g xs → Ends (goes_others w is s e xs) rest
      → others is p (spell_others w s xs ++ rest) ≡ Found xs rest
  unfolding others
  others_whole xs rest good ends =
      let le : length xs + length rest ≤ length (spell_others w s xs ++ rest) = omega (arith, length-append (spell_others w s xs) rest, length-others xs) in
      (further_law (length (spell_others w s xs ++ rest))).whole xs rest (record { each = good; count = omega arith })
      (Ends-room (length (spell_others w s xs ++ rest)) xs rest le ends)

  pub others_law : Reads (spell_others w s) (AllByRecursion g) (goes_others w is s e) (others is p)
  unfolding others
  others_law = record {
    some = [];
    some_good = tt;
    answers = λ ts. others_answers ts (further is p (length ts) ts) refl ((further_law (length ts)).answers ts);
    whole = others_whole;
  }

  joined_back : (xs : List A) → GoodJoined g xs → Makes with_first (GoodBoth g (AllByRecursion g)) xs
  joined_back [] good = absurd good.0
  joined_back (x ∷ xs) good = record { of = (x, xs); is = refl; is_good = good.1 }

  pub joined_law : Reads (spell_joined w s) (GoodJoined g) (goes_joined w is s e) (joined is p)
  joined_law =
      made_law (spell_joined w s) (GoodJoined g) (goes_joined w is s e) with_first
      (both_law lp others_law (λ a xs good _. apart_others a xs good))
      (λ x good. (tt, good))
      joined_back (λ x. refl) (λ x t. refl)

-- ---- tokens that do not go on behind a list

module _ {T A : Type 0} (w : T) (is : T → Bool) (s : A → List T) (g : A → Type 0) (e : A → T → Bool)
    (t : T) (no_mark : is t ≡ false) (none : (a : A) → g a → e a t ≡ false) where
  stays : (second : List T) (a b : Bool) → a ≡ false → b ≡ false → cond (is_nil second) (a || b) b ≡ false
  stays [] true b p q = absurd cc
  stays [] false b p q = q
  stays (x ∷ second) a b p q = q

  pub goes_others-false : (xs : List A) → AllByRecursion g xs → goes_others w is s e xs t ≡ false
  goes_others-false [] good = no_mark
  goes_others-false (x ∷ xs) good = stays (spell_others w s xs) (e x t) (goes_others w is s e xs t) (none x good.0) (goes_others-false xs good.1)

  pub goes_further-false : (k : ℕ) (xs : List A) → AllByRecursion g xs → goes_further w is s e k xs t ≡ false
  goes_further-false zero xs good = refl
  goes_further-false (suc k) [] good = no_mark
  goes_further-false (suc k) (x ∷ xs) good = stays (spell_others w s xs) (e x t) (goes_further w is s e k xs t) (none x good.0) (goes_further-false k xs good.1)

  pub goes_joined-false : (xs : List A) → GoodJoined g xs → goes_joined w is s e xs t ≡ false
  goes_joined-false [] good = refl
  goes_joined-false (x ∷ xs) good = stays (spell_others w s xs) (e x t) (goes_others w is s e xs t) (none x good.1.0) (goes_others-false xs good.1.1)

  pub goes_joined_up_to-false : (k : ℕ) (xs : List A) → GoodJoinedUpTo k g xs → goes_joined_up_to k w is s e xs t ≡ false
  goes_joined_up_to-false k [] good = refl
  goes_joined_up_to-false k (x ∷ xs) good =
      stays (spell_others w s xs) (e x t) (goes_further w is s e k xs t) (none x good.1.each.0) (goes_further-false k xs good.1.each.1)
