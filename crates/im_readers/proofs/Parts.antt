-- The law of each way to put readers together.
use Rattle.std.proofs.Common.{◌≡◌, Bool, true, false, cond, List, [], ◌∷◌, ◌++◌, length, Option, Some, None, refl, sym, ap, subst, ◌∙◌, append_assoc}
use Rattle.im_readers.specs.Reading.{Read, Found, Stopped, and_then, taken, one, mark, both, made, after, before, optional, picked}
use Rattle.im_readers.specs.Grammar.{Ends, at_end, at_other, BeginsWith, begins_with, SameFirst, no_first, one_first, Takes, Stops, ParseResult, Reads, goes_behind, never, Any, spell_both, goes_both, GoodBoth, spell_optional, GoodOptional, goes_optional}
use Rattle.im_readers.proofs.Fronts.{SameFirst-append, Ends-same, BeginsWith-same, BeginsWith-append, Ends-by, Ends-behind, Ends-first, Ends-second}

-- ---- one value, and behind it another

module _ {T A B : Type 0} {sp : A → List T} {gp : A → Type 0} {ep : A → T → Bool} {p : List T → Read T A}
    {sq : B → List T} {gq : B → Type 0} {eq : B → T → Bool} {q : List T → Read T B}
    (lp : Reads sp gp ep p) (lq : Reads sq gq eq q)
    (apart : (a : A) (b : B) → gp a → gq b → Ends (ep a) (sq b)) where
  both_second : (ts : List T) (a : A) (mid : List T) → Takes sp gp ep ts a mid → p ts ≡ Found a mid → (r : Read T B) → q mid ≡ r → ParseResult sq gq eq q mid r
      → ParseResult (spell_both sp sq) (GoodBoth gp gq) (goes_both sq ep eq) (both p q) ts (and_then r (λ b behind. Found (a, b) behind))
  both_second ts a mid first at_first (Found b rest) at_second second = record {
    parts = first.parts ∙ ap (λ (x : List T). sp a ++ x) second.parts ∙ sym (append_assoc (sp a) (sq b) rest);
    is_good = (first.is_good, second.is_good);
    ends = Ends-behind (sq b) (ep a) (eq b) rest (subst (λ (x : List T). Ends (ep a) x) second.parts first.ends) second.ends;
  }
  both_second ts a mid first at_first (Stopped left) at_second second = record {
    front = sp a ++ second.front;
    rest = second.rest;
    parts = first.parts ∙ ap (λ (x : List T). sp a ++ x) second.parts ∙ sym (append_assoc (sp a) second.front second.rest);
    count = second.count;
    begun = record {
      of = (a, second.begun.of);
      is_good = (first.is_good, second.begun.is_good);
      more = second.begun.more;
      spells = ap (λ (x : List T). sp a ++ x) second.begun.spells ∙ sym (append_assoc (sp a) second.front second.begun.more);
    };
    again = λ other same.
        let e : Ends (ep a) (second.front ++ other) =
        Ends-same (ep a) (second.front ++ second.rest) (second.front ++ other) (SameFirst-append second.front second.rest other same)
        (subst (λ (x : List T). Ends (ep a) x) second.parts first.ends) in
        ap (both p q) (append_assoc (sp a) second.front other)
        ∙ ap (λ (r : Read T A). and_then r (λ a rest. and_then (q rest) (λ b behind. Found (a, b) behind))) (lp.whole a (second.front ++ other) first.is_good e)
        ∙ ap (λ (r : Read T B). and_then r (λ b behind. Found (a, b) behind)) (second.again other same);
  }

  both_answers : (ts : List T) (r : Read T A) → p ts ≡ r → ParseResult sp gp ep p ts r
      → ParseResult (spell_both sp sq) (GoodBoth gp gq) (goes_both sq ep eq) (both p q) ts
      (and_then r (λ a rest. and_then (q rest) (λ b behind. Found (a, b) behind)))
  both_answers ts (Found a mid) at_first first = both_second ts a mid first at_first (q mid) refl (lq.answers mid)
  both_answers ts (Stopped left) at_first first = record {
    front = first.front;
    rest = first.rest;
    parts = first.parts;
    count = first.count;
    begun = record {
      of = (first.begun.of, lq.some);
      is_good = (first.begun.is_good, lq.some_good);
      more = first.begun.more ++ sq lq.some;
      spells = ap (λ (x : List T). x ++ sq lq.some) first.begun.spells ∙ append_assoc first.front first.begun.more (sq lq.some);
    };
    again = λ other same. ap (λ (r : Read T A). and_then r (λ a rest. and_then (q rest) (λ b behind. Found (a, b) behind))) (first.again other same);
  }

  pub both_law : Reads (spell_both sp sq) (GoodBoth gp gq) (goes_both sq ep eq) (both p q)
  both_law = record {
    some = (lp.some, lq.some);
    some_good = (lp.some_good, lq.some_good);
    answers = λ ts. both_answers ts (p ts) refl (lp.answers ts);
    whole = λ x rest good ends.
        ap (both p q) (append_assoc (sp x.0) (sq x.1) rest)
        ∙ ap (λ (r : Read T A). and_then r (λ a rest. and_then (q rest) (λ b behind. Found (a, b) behind)))
        (lp.whole x.0 (sq x.1 ++ rest) good.0 (Ends-first (sq x.1) (ep x.0) (eq x.1) rest (apart x.0 x.1 good.0 good.1) ends))
        ∙ ap (λ (r : Read T B). and_then r (λ b behind. Found (x.0, b) behind)) (lq.whole x.1 rest good.1 (Ends-second (sq x.1) (ep x.0) (eq x.1) rest ends));
  }

-- ---- the value that is made of what was read

-- a value that is made of a good one
pub record Makes {A B : Type 0} (f : A → B) (good : A → Type 0) (b : B) : Type 0 where
  pub of : A
  pub is : f of ≡ b
  pub is_good : good of

module _ {T A B : Type 0} {sa : A → List T} {ga : A → Type 0} {ea : A → T → Bool} {p : List T → Read T A}
    (sb : B → List T) (gb : B → Type 0) (eb : B → T → Bool) (f : A → B) (lp : Reads sa ga ea p)
    (forth : (a : A) → ga a → gb (f a)) (back : (b : B) → gb b → Makes f ga b)
    (spells : (a : A) → ga a → sb (f a) ≡ sa a) (goes : (a : A) → ga a → (t : T) → eb (f a) t ≡ ea a t) where
  made_answers : (ts : List T) (r : Read T A) → ParseResult sa ga ea p ts r → ParseResult sb gb eb (made f p) ts (and_then r (λ a rest. Found (f a) rest))
  made_answers ts (Found a rest) first = record {
    parts = first.parts ∙ ap (λ (x : List T). x ++ rest) (sym (spells a first.is_good));
    is_good = forth a first.is_good;
    ends = Ends-by (ea a) (eb (f a)) (goes a first.is_good) rest first.ends;
  }
  made_answers ts (Stopped left) first = record {
    front = first.front;
    rest = first.rest;
    parts = first.parts;
    count = first.count;
    begun = record {
      of = f first.begun.of;
      is_good = forth first.begun.of first.begun.is_good;
      more = first.begun.more;
      spells = spells first.begun.of first.begun.is_good ∙ first.begun.spells;
    };
    again = λ other same. ap (λ (r : Read T A). and_then r (λ a rest. Found (f a) rest)) (first.again other same);
  }

  made_whole : (a : A) (rest : List T) → ga a → Ends (eb (f a)) rest → made f p (sb (f a) ++ rest) ≡ Found (f a) rest
  made_whole a rest good ends =
      ap (λ (x : List T). made f p (x ++ rest)) (spells a good)
      ∙ ap (λ (r : Read T A). and_then r (λ a rest. Found (f a) rest)) (lp.whole a rest good (Ends-by (eb (f a)) (ea a) (λ t. sym (goes a good t)) rest ends))

  pub made_good_law : Reads sb gb eb (made f p)
  made_good_law = record {
    some = f lp.some;
    some_good = forth lp.some lp.some_good;
    answers = λ ts. made_answers ts (p ts) (lp.answers ts);
    whole = λ b rest good ends.
        let m = back b good in
        subst (λ (x : B). Ends (eb x) rest → made f p (sb x ++ rest) ≡ Found x rest) m.is (made_whole m.of rest m.is_good) ends;
  }

-- the same, where the equations hold of each value
pub made_law : {T A B : Type 0} {sa : A → List T} {ga : A → Type 0} {ea : A → T → Bool} {p : List T → Read T A}
    (sb : B → List T) (gb : B → Type 0) (eb : B → T → Bool) (f : A → B) → Reads sa ga ea p
    → ((a : A) → ga a → gb (f a)) → ((b : B) → gb b → Makes f ga b) → ((a : A) → sb (f a) ≡ sa a) → ((a : A) (t : T) → eb (f a) t ≡ ea a t)
    → Reads sb gb eb (made f p)
made_law sb gb eb f lp forth back spells goes = made_good_law sb gb eb f lp forth back (λ a g. spells a) (λ a g t. goes a t)

-- the same reader under another rule and another spelling, which agree
module _ {T A : Type 0} {s : A → List T} {g : A → Type 0} {e : A → T → Bool} {p : List T → Read T A}
    (s2 : A → List T) (g2 : A → Type 0) (e2 : A → T → Bool) (lp : Reads s g e p)
    (forth : (a : A) → g a → g2 a) (back : (a : A) → g2 a → g a)
    (spells : (a : A) → g a → s2 a ≡ s a) (goes : (a : A) → g a → (t : T) → e2 a t ≡ e a t) where
  agreed_answers : (ts : List T) (r : Read T A) → ParseResult s g e p ts r → ParseResult s2 g2 e2 p ts r
  agreed_answers ts (Found a rest) first = record {
    parts = first.parts ∙ ap (λ (x : List T). x ++ rest) (sym (spells a first.is_good));
    is_good = forth a first.is_good;
    ends = Ends-by (e a) (e2 a) (goes a first.is_good) rest first.ends;
  }
  agreed_answers ts (Stopped left) first = record {
    front = first.front;
    rest = first.rest;
    parts = first.parts;
    count = first.count;
    again = first.again;
    begun = record {
      of = first.begun.of;
      is_good = forth first.begun.of first.begun.is_good;
      more = first.begun.more;
      spells = spells first.begun.of first.begun.is_good ∙ first.begun.spells;
    };
  }

  pub agreed_law : Reads s2 g2 e2 p
  agreed_law = record {
    some = lp.some;
    some_good = forth lp.some lp.some_good;
    answers = λ ts. agreed_answers ts (p ts) (lp.answers ts);
    whole = λ a rest good ends.
        let h = back a good in
        ap (λ (x : List T). p (x ++ rest)) (spells a h) ∙ lp.whole a rest h (Ends-by (e2 a) (e a) (λ t. sym (goes a h t)) rest ends);
  }

-- ---- one token

-- the test is passed by one token alone
pub record IsMark {T : Type 0} (w : T) (is : T → Bool) : Type 0 where
  pub only : (t : T) → is t ≡ true → t ≡ w
  pub itself : is w ≡ true

-- the table gives the value of each token that spells a good one, and of no other
pub record IsTable {T A : Type 0} (token : A → T) (good : A → Type 0) (value : T → Option A) : Type 0 where
  pub some : A
  pub some_good : good some
  pub sound : (t : T) (a : A) → value t ≡ Some a → (t ≡ token a) × good a
  pub whole : (a : A) → good a → value (token a) ≡ Some a

module _ {T A : Type 0} {token : A → T} {good : A → Type 0} {value : T → Option A} (table : IsTable token good value) where
  -- a reader that stops at the first token
  stops_first : (t : T) (ts : List T) → value t ≡ None → Stops (λ a. token a ∷ []) good (one value) (t ∷ ts) (length (t ∷ ts))
  stops_first t ts e = record {
    front = [];
    rest = t ∷ ts;
    parts = refl;
    count = refl;
    begun = record { of = table.some; is_good = table.some_good; more = token table.some ∷ []; spells = refl };
    again = λ other same. one_again other same;
  }
    where
      one_again : (other : List T) → SameFirst (t ∷ ts) other → one value other ≡ Stopped (length other)
      one_again other (one_first u us vs) = ap (λ (o : Option A). taken o t vs) e

  one_answers : (t : T) (ts : List T) (o : Option A) → value t ≡ o → ParseResult (λ a. token a ∷ []) good never (one value) (t ∷ ts) (taken o t ts)
  one_answers t ts (Some a) e = record { parts = ap (λ (x : T). x ∷ ts) (table.sound t a e).0; is_good = (table.sound t a e).1; ends = Ends-never ts }
    where
      Ends-never : (ts : List T) → Ends (λ t. false) ts
      Ends-never [] = at_end
      Ends-never (t ∷ ts) = at_other t ts refl
  one_answers t ts None e = stops_first t ts e

  one_at : (ts : List T) → ParseResult (λ a. token a ∷ []) good never (one value) ts (one value ts)
  one_at [] = record {
    front = [];
    rest = [];
    parts = refl;
    count = refl;
    begun = record { of = table.some; is_good = table.some_good; more = token table.some ∷ []; spells = refl };
    again = one_again;
  }
    where
      one_again : (other : List T) → SameFirst [] other → one value other ≡ Stopped (length other)
      one_again other no_first = refl
  one_at (t ∷ ts) = one_answers t ts (value t) refl

  pub one_law : Reads (λ a. token a ∷ []) good never (one value)
  one_law = record {
    some = table.some;
    some_good = table.some_good;
    answers = one_at;
    whole = λ a rest g ends. ap (λ (o : Option A). taken o (token a) rest) (table.whole a g);
  }

-- ---- marks

Ends-never : {T : Type 0} (ts : List T) → Ends (λ t. false) ts
Ends-never [] = at_end
Ends-never (t ∷ ts) = at_other t ts refl

mark_sound : {T : Type 0} {w : T} {is : T → Bool} → IsMark w is → (t : T) (a : Unit {0}) (b : Bool) → is t ≡ b → cond b (Some tt) None ≡ Some a
    → (t ≡ w) × Unit {0}
mark_sound m t a true e s = (m.only t e, tt)
mark_sound m t a false e s = absurd cc

mark_table : {T : Type 0} {w : T} {is : T → Bool} → IsMark w is → IsTable (λ (u : Unit {0}). w) Any (λ t. cond (is t) (Some tt) None)
mark_table {T} {w} {is} m = record {
  some = tt;
  some_good = tt;
  sound = λ t a e. mark_sound m t a (is t) refl e;
  whole = λ a g. ap (λ (b : Bool). cond b (Some tt) None) m.itself;
}

pub mark_law : {T : Type 0} {w : T} {is : T → Bool} → IsMark w is → Reads (λ (u : Unit {0}). w ∷ []) Any never (mark is)
mark_law m = one_law (mark_table m)

goes_nothing : {T : Type 0} (second : List T) (f : T → Bool) (t : T) → f t ≡ goes_behind second (λ t. false) f t
goes_nothing [] f t = refl
goes_nothing (x ∷ second) f t = refl

pub after_law : {T A : Type 0} {w : T} {is : T → Bool} {s : A → List T} {g : A → Type 0} {e : A → T → Bool} {p : List T → Read T A}
    → IsMark w is → Reads s g e p → Reads (λ a. w ∷ s a) g e (after is p)
after_law {T} {A} {w} {is} {s} {g} {e} {p} m lp =
    made_law (λ a. w ∷ s a) g e (λ x. x.1) (both_law (mark_law m) lp (λ u a _ _. Ends-never (s a)))
    (λ x good. good.1)
    (λ a good. record { of = (tt, a); is = refl; is_good = (tt, good) })
    (λ x. refl)
    (λ x t. goes_nothing (s x.1) (e x.1) t)

pub before_law : {T A : Type 0} {w : T} {is : T → Bool} {s : A → List T} {g : A → Type 0} {e : A → T → Bool} {p : List T → Read T A}
    → IsMark w is → Reads s g e p → ((a : A) → g a → e a w ≡ false) → Reads (λ a. s a ++ w ∷ []) g never (before p is)
before_law {T} {A} {w} {is} {s} {g} {e} {p} m lp apart =
    made_law (λ a. s a ++ w ∷ []) g never (λ x. x.0) (both_law lp (mark_law m) (λ a u good _. at_other w [] (apart a good)))
    (λ x good. good.0)
    (λ a good. record { of = (a, tt); is = refl; is_good = (good, tt) })
    (λ x. refl)
    (λ x t. refl)

-- ---- a value where the next token begins one

module _ {T A : Type 0} {sp : A → List T} {gp : A → Type 0} {ep : A → T → Bool} {p : List T → Read T A}
    (begins : T → Bool) (lp : Reads sp gp ep p) (starts : (a : A) → gp a → BeginsWith begins (sp a)) where
  optional_at : (ts : List T) → BeginsWith begins ts → optional begins p ts ≡ made Some p ts
  optional_at ts (begins_with t us e) = ap (λ (b : Bool). cond b (made Some p (t ∷ us)) (Found None (t ∷ us))) e

  some_answers : (ts : List T) → BeginsWith begins ts → (r : Read T A) → ParseResult sp gp ep p ts r
      → ParseResult (spell_optional sp) (GoodOptional gp) (goes_optional begins ep) (optional begins p) ts (and_then r (λ a rest. Found (Some a) rest))
  some_answers ts b (Found a rest) first = record { parts = first.parts; is_good = first.is_good; ends = first.ends }
  some_answers ts b (Stopped left) first = record {
    front = first.front;
    rest = first.rest;
    parts = first.parts;
    count = first.count;
    begun = record { of = Some first.begun.of; is_good = first.begun.is_good; more = first.begun.more; spells = first.begun.spells };
    again = λ other same.
        let b2 : BeginsWith begins (first.front ++ other) =
        BeginsWith-same begins (first.front ++ first.rest) (first.front ++ other) (SameFirst-append first.front first.rest other same)
        (subst (λ (x : List T). BeginsWith begins x) first.parts b) in
        optional_at (first.front ++ other) b2 ∙ ap (λ (r : Read T A). and_then r (λ a rest. Found (Some a) rest)) (first.again other same);
  }

  optional_answers : (t : T) (ts : List T) (b : Bool) → begins t ≡ b
      → ParseResult (spell_optional sp) (GoodOptional gp) (goes_optional begins ep) (optional begins p) (t ∷ ts)
      (cond b (made Some p (t ∷ ts)) (Found None (t ∷ ts)))
  optional_answers t ts true e = some_answers (t ∷ ts) (begins_with t ts e) (p (t ∷ ts)) (lp.answers (t ∷ ts))
  optional_answers t ts false e = record { parts = refl; is_good = tt; ends = at_other t ts e }

  optional_answers_at : (ts : List T) → ParseResult (spell_optional sp) (GoodOptional gp) (goes_optional begins ep) (optional begins p) ts (optional begins p ts)
  optional_answers_at [] = record { parts = refl; is_good = tt; ends = at_end }
  optional_answers_at (t ∷ ts) = optional_answers t ts (begins t) refl

  none_whole : (rest : List T) → Ends begins rest → optional begins p rest ≡ Found None rest
  none_whole rest at_end = refl
  none_whole rest (at_other t ts e) = ap (λ (b : Bool). cond b (made Some p (t ∷ ts)) (Found None (t ∷ ts))) e

  optional_whole : (o : Option A) (rest : List T) → GoodOptional gp o → Ends (goes_optional begins ep o) rest
      → optional begins p (spell_optional sp o ++ rest) ≡ Found o rest
  optional_whole None rest good ends = none_whole rest (Ends-by (goes_optional begins ep None) begins (λ t. refl) rest ends)
  optional_whole (Some a) rest good ends =
      optional_at (sp a ++ rest) (BeginsWith-append begins (sp a) rest (starts a good))
      ∙ ap (λ (r : Read T A). and_then r (λ a rest. Found (Some a) rest))
      (lp.whole a rest good (Ends-by (goes_optional begins ep (Some a)) (ep a) (λ t. refl) rest ends))

  pub optional_law : Reads (spell_optional sp) (GoodOptional gp) (goes_optional begins ep) (optional begins p)
  optional_law = record {
    some = None;
    some_good = tt;
    answers = optional_answers_at;
    whole = optional_whole;
  }

-- ---- the reader that the next token chooses

-- the good values whose spelling begins with one kind of token
pub record GoodFirst {A K : Type 0} (good : A → Type 0) (first : A → K) (k : K) (a : A) : Type 0 where
  pub is_good : good a
  pub is_first : first a ≡ k

-- for one kind of first token: its values are read, or there are none
pub data Choice {T A K : Type 0} (spell : A → List T) (good : A → Type 0) (goes : A → T → Bool) (first : A → K) (k : K)
    (read : List T → Read T A) : Type 0 where
  chosen : Reads spell (GoodFirst good first k) goes read → Choice spell good goes first k read
  none_chosen : ((ts : List T) → read ts ≡ Stopped (length ts)) → ((a : A) → good a → first a ≡ k → ⊥) → Choice spell good goes first k read

-- the list has a first token, of this kind
pub data FirstKind {T K : Type 0} (kind : T → K) (k : K) : List T → Type 0 where
  first_kind : (t : T) (ts : List T) → kind t ≡ k → FirstKind kind k (t ∷ ts)

FirstKind-same : {T K : Type 0} (kind : T → K) (k : K) (xs ys : List T) → SameFirst xs ys → FirstKind kind k xs → FirstKind kind k ys
FirstKind-same kind k xs ys no_first b = elim b [ ]
FirstKind-same kind k xs ys (one_first u us vs) (first_kind v ws e) = first_kind u vs e

FirstKind-append : {T K : Type 0} (kind : T → K) (k : K) (xs ys : List T) → FirstKind kind k xs → FirstKind kind k (xs ++ ys)
FirstKind-append kind k xs ys (first_kind u us e) = first_kind u (us ++ ys) e

module _ {T A K : Type 0} (spell : A → List T) (good : A → Type 0) (goes : A → T → Bool) (kind : T → K) (choose : K → List T → Read T A)
    (first : A → K) (some : A) (some_good : good some)
    (firsts : (a : A) → good a → FirstKind kind (first a) (spell a))
    (choices : (k : K) → Choice spell good goes first k (choose k)) where
  picked_at : (k : K) (ts : List T) → FirstKind kind k ts → picked kind choose ts ≡ choose k ts
  picked_at k ts (first_kind t us e) = ap (λ (x : K). choose x (t ∷ us)) e

  chosen_answers : (k : K) (ts : List T) → FirstKind kind k ts → (r : Read T A) → ParseResult spell (GoodFirst good first k) goes (choose k) ts r
      → ParseResult spell good goes (picked kind choose) ts r
  chosen_answers k ts f (Found a rest) o = record { parts = o.parts; is_good = o.is_good.is_good; ends = o.ends }
  chosen_answers k ts f (Stopped left) o = record {
    front = o.front;
    rest = o.rest;
    parts = o.parts;
    count = o.count;
    begun = record { of = o.begun.of; is_good = o.begun.is_good.is_good; more = o.begun.more; spells = o.begun.spells };
    again = λ other same.
        let f2 : FirstKind kind k (o.front ++ other) =
        FirstKind-same kind k (o.front ++ o.rest) (o.front ++ other) (SameFirst-append o.front o.rest other same)
        (subst (λ (x : List T). FirstKind kind k x) o.parts f) in
        picked_at k (o.front ++ other) f2 ∙ o.again other same;
  }

  none_again : (t : T) (ts other : List T) → ((us : List T) → choose (kind t) us ≡ Stopped (length us)) → SameFirst (t ∷ ts) other
      → picked kind choose other ≡ Stopped (length other)
  none_again t ts other stops (one_first u us vs) = stops (t ∷ vs)

  first_answers : (t : T) (ts : List T) → Choice spell good goes first (kind t) (choose (kind t))
      → ParseResult spell good goes (picked kind choose) (t ∷ ts) (choose (kind t) (t ∷ ts))
  first_answers t ts (chosen l) = chosen_answers (kind t) (t ∷ ts) (first_kind t ts refl) (choose (kind t) (t ∷ ts)) (l.answers (t ∷ ts))
  first_answers t ts (none_chosen stops none) =
      let o : ParseResult spell good goes (picked kind choose) (t ∷ ts) (Stopped (length (t ∷ ts))) = record {
        front = [];
        rest = t ∷ ts;
        parts = refl;
        count = refl;
        begun = record { of = some; is_good = some_good; more = spell some; spells = refl };
        again = λ other same. none_again t ts other stops same;
      } in
      subst (λ (r : Read T A). ParseResult spell good goes (picked kind choose) (t ∷ ts) r) (sym (stops (t ∷ ts))) o

  empty_again : (other : List T) → SameFirst [] other → picked kind choose other ≡ Stopped (length other)
  empty_again other no_first = refl

  picked_answers : (ts : List T) → ParseResult spell good goes (picked kind choose) ts (picked kind choose ts)
  picked_answers [] = record {
    front = [];
    rest = [];
    parts = refl;
    count = refl;
    begun = record { of = some; is_good = some_good; more = spell some; spells = refl };
    again = empty_again;
  }
  picked_answers (t ∷ ts) = first_answers t ts (choices (kind t))

  choice_whole : (a : A) (rest : List T) → good a → Ends (goes a) rest → Choice spell good goes first (first a) (choose (first a))
      → choose (first a) (spell a ++ rest) ≡ Found a rest
  choice_whole a rest g ends (chosen l) = l.whole a rest (record { is_good = g; is_first = refl }) ends
  choice_whole a rest g ends (none_chosen stops none) = absurd (none a g refl)

  pub picked_law : Reads spell good goes (picked kind choose)
  picked_law = record {
    some = some;
    some_good = some_good;
    answers = picked_answers;
    whole = λ a rest g ends.
        picked_at (first a) (spell a ++ rest) (FirstKind-append kind (first a) (spell a) rest (firsts a g)) ∙ choice_whole a rest g ends (choices (first a));
  }
