-- Groups as a map holds them: what a look-up finds, and what an insert and a write leave.
use Rattle.std.proofs.Common.{◌≡◌, Bool, true, false, cond, List, [], ◌∷◌, ◌++◌, map, Option, None, Some, refl, sym, ap, subst, ◌∙◌}
use Rattle.std.specs.List.{AllByRecursion, IsDistinct}
use Rattle.std.proofs.lemmas.List.{map-append}
use Rattle.std.proofs.lemmas.Cmp.{eq_by_cmp_equiv}
use Rattle.std.specs.Map.{lookup, set_value}
use Rattle.std.specs.Prelude.{IsSome, MatchOption}
use Rattle.std.specs.Iterator.{Yields}
use Rattle.im_values.specs.declared.content.Content.{Content as Value}
use Rattle.indexmap.specs.IndexMap.{insert_entry}
use Rattle.im_group.specs.Tallies.{Tallied}
use Rattle.im_group.specs.Partials.{is_key, keyed}
use Rattle.im_group.specs.inner.Steps.{tallies_at, placed}
use Rattle.im_group.proofs.Orders.{key_total}

-- `eq` compares keys as their values compare
abbrev pub Agrees : {K : Type 0} → (K → K → Bool) → (K → List Value) → Type 0
Agrees {K} eq f = (x y : K) → eq x y ≡ is_key (f x) (f y)

module _ {K : Type 0} (eq : K → K → Bool) (f : K → List Value) (agrees : Agrees eq f) where
  put : (b : Bool) (e : K × Tallied) (es rest : List (K × Tallied)) (ts : Tallied)
      → keyed f (cond b ((e.0, ts) ∷ es) (e ∷ rest)) ≡ cond b ((f e.0, ts) ∷ keyed f es) ((f e.0, e.1) ∷ keyed f rest)
  put true e es rest ts = refl
  put false e es rest ts = refl

  -- an insert
  pub keyed-insert_entry : (es : List (K × Tallied)) (k : K) (ts : Tallied) → keyed f (insert_entry eq es k ts) ≡ placed (keyed f es) (f k) ts
  keyed-insert_entry [] k ts = refl
  keyed-insert_entry (e ∷ es) k ts =
      put (eq k e.0) e es (insert_entry eq es k ts) ts
      ∙ (λ i. cond (agrees k e.0 i) ((f e.0, ts) ∷ keyed f es) ((f e.0, e.1) ∷ keyed-insert_entry es k ts i))

  -- a look-up
  pub lookup-keyed : (es : List (K × Tallied)) (k : K) → lookup (eq k) es ≡ tallies_at (keyed f es) (f k)
  lookup-keyed [] k = refl
  lookup-keyed (e ∷ es) k = λ i. cond (agrees k e.0 i) (Some e.1) (lookup-keyed es k i)

  found : (b : Bool) (e : K × Tallied) (es : List (K × Tallied)) (k : K) (ts : Tallied) → eq k e.0 ≡ b
      → (IsSome (lookup (eq k) es) → keyed f (set_value (eq k) es ts) ≡ placed (keyed f es) (f k) ts)
      → IsSome (cond b (Some e.1) (lookup (eq k) es))
      → keyed f (cond b ((e.0, ts) ∷ es) (e ∷ set_value (eq k) es ts)) ≡ cond b ((f e.0, ts) ∷ keyed f es) ((f e.0, e.1) ∷ placed (keyed f es) (f k) ts)
  found true e es k ts t more here = refl
  found false e es k ts t more here = ap (λ l. (f e.0, e.1) ∷ l) (more here)

  -- a write at a key that is there
  pub keyed-set_value : (es : List (K × Tallied)) (k : K) (ts : Tallied) → IsSome (lookup (eq k) es)
      → keyed f (set_value (eq k) es ts) ≡ placed (keyed f es) (f k) ts
  keyed-set_value [] k ts here = absurd cc
  keyed-set_value (e ∷ es) k ts here =
      found (eq k e.0) e es k ts refl (keyed-set_value es k ts) here
      ∙ ap (λ b. cond b ((f e.0, ts) ∷ keyed f es) ((f e.0, e.1) ∷ placed (keyed f es) (f k) ts)) (agrees k e.0)

-- a look-up and a write by a test that agrees with a key
module _ {K : Type 0} (test : K → Bool) (q : List Value) (f : K → List Value) (agrees : (y : K) → test y ≡ is_key q (f y)) where
  pub lookup-tested : (es : List (K × Tallied)) → lookup test es ≡ tallies_at (keyed f es) q
  lookup-tested [] = refl
  lookup-tested (e ∷ es) = λ i. cond (agrees e.0 i) (Some e.1) (lookup-tested es i)

  tested : (b : Bool) (e : K × Tallied) (es : List (K × Tallied)) (ts : Tallied)
      → (IsSome (lookup test es) → keyed f (set_value test es ts) ≡ placed (keyed f es) q ts)
      → IsSome (cond b (Some e.1) (lookup test es))
      → keyed f (cond b ((e.0, ts) ∷ es) (e ∷ set_value test es ts)) ≡ cond b ((f e.0, ts) ∷ keyed f es) ((f e.0, e.1) ∷ placed (keyed f es) q ts)
  tested true e es ts more here = refl
  tested false e es ts more here = ap (λ l. (f e.0, e.1) ∷ l) (more here)

  pub keyed-set_tested : (es : List (K × Tallied)) (ts : Tallied) → IsSome (lookup test es) → keyed f (set_value test es ts) ≡ placed (keyed f es) q ts
  keyed-set_tested [] ts here = absurd cc
  keyed-set_tested (e ∷ es) ts here =
      tested (test e.0) e es ts (keyed-set_tested es ts) here
      ∙ ap (λ b. cond b ((f e.0, ts) ∷ keyed f es) ((f e.0, e.1) ∷ placed (keyed f es) q ts)) (agrees e.0)

pub absent : (b : Bool) (v : Tallied) (r : Option Tallied) → cond b (Some v) r ≡ None → (b ≡ false) × (r ≡ None)
absent true v r e = absurd cc
absent false v r e = (refl, e)

-- new tallies at a key that is not there go last
pub placed_new : (gs : List (List Value × Tallied)) (k : List Value) (ts : Tallied) → tallies_at gs k ≡ None → placed gs k ts ≡ gs ++ (k, ts) ∷ []
placed_new [] k ts none = refl
placed_new (g ∷ gs) k ts none =
    let none_of = absent (is_key k g.0) g.1 (tallies_at gs k) none in
    ap (λ b. cond b ((g.0, ts) ∷ gs) (g ∷ placed gs k ts)) none_of.0 ∙ ap (λ l. g ∷ l) (placed_new gs k ts none_of.1)

flipped_key : (a b : List Value) → is_key a b ≡ is_key b a
flipped_key a b = (eq_by_cmp_equiv key_total).symm a b

all_middle : {K : Type 0} (P : K → Type 0) (xs : List K) (y : K) (zs : List K) → AllByRecursion P (xs ++ y ∷ zs) → P y
all_middle P [] y zs all = all.0
all_middle P (x ∷ xs) y zs all = all_middle P xs y zs all.1

-- no key stands before itself where the keys are distinct
pub not_before : {K : Type 0} (eq : K → K → Bool) (f : K → List Value) → Agrees eq f
    → (xs : List (K × Tallied)) (e : K × Tallied) (zs : List (K × Tallied))
    → IsDistinct eq (map (λ g. g.0) (xs ++ e ∷ zs)) → tallies_at (keyed f xs) (f e.0) ≡ None
unfolding IsDistinct
not_before eq f agrees [] e zs distinct = refl
not_before eq f agrees (x ∷ xs) e zs distinct =
    let front = all_middle (λ y. eq x.0 y ≡ false) (map (λ g. g.0) xs) e.0 (map (λ g. g.0) zs)
    (subst (AllByRecursion (λ y. eq x.0 y ≡ false)) (map-append (λ g. g.0) xs (e ∷ zs)) distinct.0) in
    ap (λ b. cond b (Some x.1) (tallies_at (keyed f xs) (f e.0))) (flipped_key (f e.0) (f x.0) ∙ (sym (agrees x.0 e.0) ∙ front))
    ∙ not_before eq f agrees xs e zs distinct.1

-- an iterator that is the list of what is still to come
abbrev pub listed : {X Y : Type 0} → (Y → X) → List X → Option Y → List X → Type 0
listed h s r t = MatchOption r ((s ≡ []) × (t ≡ [])) (λ y. s ≡ h y ∷ t)

-- what came and what is to come are all
pub came : {X : Type 0} (s xs t : List X) → Yields (listed (λ x. x)) s xs t → s ≡ xs ++ t
came s [] t y = y
came s (x ∷ xs) t y = y.1 ∙ ap (λ l. x ∷ l) (came y.0 xs t y.2)

pub shown : {X Y : Type 0} (h : Y → X) (s : List X) (ys : List Y) (t : List X) → Yields (listed h) s ys t → s ≡ map h ys ++ t
shown h s [] t y = y
shown h s (x ∷ xs) t y = y.1 ∙ ap (λ l. h x ∷ l) (shown h y.0 xs t y.2)

pub no_more_of : {X : Type 0} (xs ys : List X) → ys ≡ [] → xs ++ ys ≡ xs
no_more_of [] ys e = e
no_more_of (x ∷ xs) ys e = ap (λ l. x ∷ l) (no_more_of xs ys e)

pub keyed-map : {K Y : Type 0} (f : K → List Value) (h : Y → K × Tallied) (ys : List Y) → keyed f (map h ys) ≡ map (λ y. (f (h y).0, (h y).1)) ys
keyed-map f h [] = refl
keyed-map f h (y ∷ ys) = ap (λ l. (f (h y).0, (h y).1) ∷ l) (keyed-map f h ys)
