-- Values between a least and a greatest one.
use Rattle.std.proofs.Common.{◌≡◌, Bool, true, false, not, ◌&&◌, ◌||◌, refl, sym, ap, ◌∙◌}
use Rattle.std.specs.Ordering.{is_eq, is_lt, ordering_reverse}
use Rattle.std.specs.declared.cmp.Ordering.{Ordering}
use Rattle.std.specs.declared.cmp.Ordering.TheVariants.{Less, Equal, Greater}
use Rattle.im_values.specs.declared.comparison.Cmp.{Cmp}
use Rattle.im_values.specs.declared.comparison.Cmp.TheVariants.{Eq, Ne, Lt, Le, Gt, Ge}
use Rattle.im_values.specs.declared.content.Content.{Content as Value}
use Rattle.im_values.specs.Order.{order, admits}
use Rattle.im_values.proofs.ForCallers.{order_total, order_same}
use Rattle.im_index.specs.Excludes.{is_below, is_same, ends_exclude}

turned : (x y : Value) → order x y ≡ Greater → order y x ≡ Less
turned x y e = order_total.antisymm y x ∙ ap ordering_reverse e

below : (x y : Value) → order x y ≡ Less → is_below x y ≡ true
below x y e = ap is_lt e

less : (x y : Value) → is_below x y ≡ true → order x y ≡ Less
less x y h = by (order x y) refl
  where
    by : (o : Ordering) → order x y ≡ o → o ≡ Less
    by Less e = refl
    by Equal e = absurd (let other = ap is_lt e in cc)
    by Greater e = absurd (let other = ap is_lt e in cc)

-- a value below one that is not above a third is below the third
below-up : (a b c : Value) → order a b ≡ Less → is_below c b ≡ false → is_below a c ≡ true
below-up a b c up within = by (order c b) refl
  where
    by : (o : Ordering) → order c b ≡ o → is_below a c ≡ true
    by Less e = absurd (let less = below c b e in cc)
    by Equal e = below a c (ap (order a) (order_same c b e) ∙ up)
    by Greater e = below a c (order_total.trans a b c up (turned c b e))

-- a value that is not above one below a third is below the third
below-down : (a b c : Value) → is_below b a ≡ false → order b c ≡ Less → is_below a c ≡ true
below-down a b c within up = by (order b a) refl
  where
    by : (o : Ordering) → order b a ≡ o → is_below a c ≡ true
    by Less e = absurd (let less = below b a e in cc)
    by Equal e = below a c (ap (λ x. order x c) (sym (order_same b a e)) ∙ up)
    by Greater e = below a c (order_total.trans a b c (turned b a e) up)

-- a value is neither below a least nor above a greatest one
pub record IsWithin (least greatest x : Value) : Type 0 where
  pub over : is_below x least ≡ false
  pub under : is_below greatest x ≡ false

both : (a b : Bool) → (a && b) ≡ true → (a ≡ true) × (b ≡ true)
both true true e = (refl, refl)
both true false e = absurd cc
both false b e = absurd cc

neither : (a b : Bool) → (a || b) ≡ true → a ≡ false → b ≡ false → ⊥
neither true b e p q = cc
neither false true e p q = cc
neither false false e p q = cc

-- a value that is another is not below it
same-below : (a b : Value) → is_same a b ≡ true → is_below a b ≡ true → ⊥
same-below a b same less = by (order a b) refl
  where
    by : (o : Ordering) → order a b ≡ o → ⊥
    by Less e = let other = ap is_eq e in cc
    by Equal e = let other = ap is_lt e in cc
    by Greater e = let other = ap is_lt e in cc

same-above : (a b : Value) → is_same a b ≡ true → is_below b a ≡ true → ⊥
same-above a b same less = by (order a b) refl
  where
    by : (o : Ordering) → order a b ≡ o → ⊥
    by Less e = let other = ap is_eq e in cc
    by Equal e = let other = ap is_lt (order_total.antisymm b a ∙ ap ordering_reverse e) in cc
    by Greater e = let other = ap is_eq e in cc

not-true : (b : Bool) → not b ≡ true → b ≡ true → ⊥
not-true true e h = cc
not-true false e h = cc

-- no value within stands so to one that the ends exclude
pub ends-excluded : (cmp : Cmp) (least greatest v x : Value) → IsWithin least greatest x → ends_exclude cmp least greatest v ≡ true →
    admits cmp (order x v) ≡ false
ends-excluded cmp least greatest v x within out = by cmp (order x v) refl out
  where
    same : order x v ≡ Equal → x ≡ v
    same e = order_same x v e

    -- what follows where the value is below, and where it is above
    low : order x v ≡ Less → is_below least v ≡ true
    low e = below-down least x v within.over e

    high : order x v ≡ Greater → is_below v greatest ≡ true
    high e = below-up v x greatest (turned x v e) within.under

    by : (cmp : Cmp) (o : Ordering) → order x v ≡ o → ends_exclude cmp least greatest v ≡ true → admits cmp o ≡ false
    by Eq Less e h = refl
    by Eq Equal e h = absurd (neither (is_below v least) (is_below greatest v) h
        (ap (λ y. is_below y least) (sym (same e)) ∙ within.over) (ap (is_below greatest) (sym (same e)) ∙ within.under))
    by Eq Greater e h = refl
    by Ne Less e h = absurd (same-below least v (both (is_same least v) (is_same greatest v) h).0 (low e))
    by Ne Equal e h = refl
    by Ne Greater e h = absurd (same-above greatest v (both (is_same least v) (is_same greatest v) h).1 (high e))
    by Lt Less e h = absurd (not-true (is_below least v) h (low e))
    by Lt Equal e h = refl
    by Lt Greater e h = refl
    by Le Less e h = absurd (let up = below x least (order_total.trans x v least e (less v least h)) in let over = within.over in cc)
    by Le Equal e h = absurd (let same = ap (λ y. is_below y least) (same e) in let over = within.over in cc)
    by Le Greater e h = refl
    by Gt Less e h = refl
    by Gt Equal e h = refl
    by Gt Greater e h = absurd (not-true (is_below v greatest) h (high e))
    by Ge Less e h = refl
    by Ge Equal e h = absurd (let same = ap (is_below greatest) (same e) in let under = within.under in cc)
    by Ge Greater e h = absurd (let up = below greatest x (order_total.trans greatest v x (less greatest v h) (turned x v e)) in let under = within.under in cc)
