-- What callers know of the order of values (it is a total order, and values tie in it exactly where they are equal), and of a block of values.
use Rattle.std.proofs.Common.{◌≡◌, true, sym, ℕ, ◌+◌, ◌*◌, ◌≤◌, List, [], ◌∷◌, ◌++◌, zero, suc, length, take, drop, refl, ap, ◌∙◌, arith}
use Rattle.std.proofs.lemmas.List.{length-drop, nil_from_length, take-append-le, drop-append-le, take_all}
use Rattle.std.specs.Cmp.{IsTotalOrder, int_cmp_total}
use Rattle.std.specs.FinMap.{int_cmp-IsAntisymmetric, slice_cmp-IsAntisymmetric, nat_cmp-IsAntisymmetric}
use Rattle.std.specs.Cmp.Lexicographic.{nat_list_cmp_total, texts_ties}
use Rattle.std.specs.Ordering.{ordering_reverse, is_eq}
use Rattle.std.specs.declared.cmp.Ordering.{Ordering}
use Rattle.std.specs.declared.cmp.Ordering.TheVariants.{Less, Equal, Greater}
use Rattle.std.specs.Bool.{Decides}
use Rattle.im_values.specs.contracts.content.ContentPartialEq.TheImpl as value_eq
use Rattle.im_values.specs.declared.content.Content.{Content as Value}
use Rattle.im_values.specs.declared.content.Content.TheVariants.{Int, Text, Null}
use Rattle.im_values.specs.Order.{order}
use Rattle.im_values.specs.Stretches.{cut}

order-antisymm : (x y : Value) → order x y ≡ ordering_reverse (order y x)
order-antisymm (Int a) (Int b) = int_cmp_total.antisymm a b
order-antisymm (Int a) (Text b) = refl
order-antisymm (Int a) Null = refl
order-antisymm (Text a) (Int b) = refl
order-antisymm (Text a) (Text b) = nat_list_cmp_total.antisymm a b
order-antisymm (Text a) Null = refl
order-antisymm Null (Int b) = refl
order-antisymm Null (Text b) = refl
order-antisymm Null Null = refl

null-last : (z : Value) → order Null z ≡ Less → ⊥
null-last (Int c) q = cc
null-last (Text c) q = cc
null-last Null q = cc

order-trans : (x y z : Value) → order x y ≡ Less → order y z ≡ Less → order x z ≡ Less
order-trans (Int a) (Int b) (Int c) p q = int_cmp_total.trans a b c p q
order-trans (Int a) (Int b) (Text c) p q = refl
order-trans (Int a) (Int b) Null p q = refl
order-trans (Int a) (Text b) (Int c) p q = cc
order-trans (Int a) (Text b) (Text c) p q = refl
order-trans (Int a) (Text b) Null p q = refl
order-trans (Int a) Null z p q = absurd (null-last z q)
order-trans (Text a) (Int b) z p q = cc
order-trans (Text a) (Text b) (Int c) p q = cc
order-trans (Text a) (Text b) (Text c) p q = nat_list_cmp_total.trans a b c p q
order-trans (Text a) (Text b) Null p q = refl
order-trans (Text a) Null z p q = absurd (null-last z q)
order-trans Null (Int b) z p q = cc
order-trans Null (Text b) z p q = cc
order-trans Null Null z p q = cc

-- only equal values tie
pub order_same : (x y : Value) → order x y ≡ Equal → x ≡ y
order_same (Int a) (Int b) e = ap Int (int_cmp-IsAntisymmetric a b e)
order_same (Int a) (Text b) e = cc
order_same (Int a) Null e = cc
order_same (Text a) (Int b) e = cc
order_same (Text a) (Text b) e = ap Text (slice_cmp-IsAntisymmetric nat_cmp-IsAntisymmetric a b e)
order_same (Text a) Null e = cc
order_same Null (Int b) e = cc
order_same Null (Text b) e = cc
order_same Null Null e = refl

-- the order of values is a total order
pub order_total : IsTotalOrder order
order_total = record {
  antisymm = order-antisymm;
  trans = order-trans;
  congr = λ x y z e. ap (λ v. order v z) (order_same x y e);
}

-- equality of values, as it is derived, is that they tie
pub value_ties : (a b : Value) → (value_eq.ghosts).eq a b ≡ is_eq (order a b)
value_ties (Int a) (Int b) = refl
value_ties (Text a) (Text b) = texts_ties a b
value_ties Null Null = refl
value_ties a b = refl

-- ---- A block of values

one_more : (count width : ℕ) → suc count * width ≡ width + count * width
one_more count width = grind arith

rest_of : (count width : ℕ) (values : List Value) → length values ≡ suc count * width → length (drop width values) ≡ count * width
rest_of count width values long =
    let more = one_more count width in
    let rest = length-drop width values in
    omega (arith, more, rest, long)

-- the values of one more row behind a block are one more row
pub cut-push : (count width : ℕ) (values row : List Value) → length values ≡ count * width → length row ≡ width →
    cut (suc count) width (values ++ row) ≡ cut count width values ++ row ∷ []
cut-push zero width values row long wide =
    rw (nil_from_length values (long ∙ (grind arith))) (ap (λ r. r ∷ []) (take_all width row (grind (arith, wide))))
cut-push (suc count) width values row long wide =
    let more = one_more count width in
    let enough : width ≤ length values = omega (arith, more, long) in
    rw (take-append-le width values row enough, drop-append-le width values row enough)
    (ap (λ rows. take width values ∷ rows) (cut-push count width (drop width values) row (rest_of count width values long) wide))

-- and so are those of more rows
pub cut-append : (count more width : ℕ) (values others : List Value) → length values ≡ count * width → length others ≡ more * width →
    cut (count + more) width (values ++ others) ≡ cut count width values ++ cut more width others
cut-append zero more width values others long wide =
    rw (nil_from_length values (long ∙ (grind arith))) (ap (λ (n : ℕ). cut n width others) (omega arith))
cut-append (suc count) more width values others long wide =
    let all = one_more count width in
    let enough : width ≤ length values = omega (arith, all, long) in
    let next : suc count + more ≡ suc (count + more) = omega arith in
    rw (next, take-append-le width values others enough, drop-append-le width values others enough)
    (ap (λ rows. take width values ∷ rows) (cut-append count more width (drop width values) others (rest_of count width values long) wide))

-- ---- Equal values

tied : (o : Ordering) → is_eq o ≡ true → o ≡ Equal
tied Equal e = refl
tied Less e = cc
tied Greater e = cc

own_reverse : (o : Ordering) → o ≡ ordering_reverse o → is_eq o ≡ true
own_reverse Equal e = refl
own_reverse Less e = cc
own_reverse Greater e = cc

-- equality of values, as it is derived, decides whether they are the same
pub value_decides : (a b : Value) → Decides ((value_eq.ghosts).eq a b) (a ≡ b)
value_decides a b = (
  λ equal. order_same a b (tied (order a b) (sym (value_ties a b) ∙ equal)),
  λ same. value_ties a b ∙ (ap (λ v. is_eq (order v b)) same ∙ own_reverse (order b b) (order_total.antisymm b b)),
)
