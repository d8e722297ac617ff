-- What all values of a column come to, by what it keeps.
use Rattle.std.proofs.Common.{◌≡◌, ℕ, ℤ, pos, ◌+ℤ◌, zero, suc, ◌+◌, ◌-◌, ◌⊎◌, inl, inr, Bool, true, false, cond, List, [], ◌∷◌, Some, length, get_or, slice_get, fold, count_by, All, ⊎_elim, sym, refl, ap, ◌∙◌, arith}
use Rattle.std.specs.Cmp.{IsStrictWeakOrder}
use Rattle.std.specs.List.Sorted.{IsStrictlySortedBy}
use Rattle.std.specs.Ordering.{is_lt, match_ordering, ordering_reverse}
use Rattle.std.specs.declared.cmp.Ordering.{Ordering}
use Rattle.std.specs.declared.cmp.Ordering.TheVariants.{Less, Equal, Greater}
use Rattle.std.specs.BTreeSet.{insert_key}
use Rattle.std.proofs.Math.IntN.{+ℤ_idr}
use Rattle.std.proofs.lemmas.Bool.{true≢false}
use Rattle.std.proofs.lemmas.List.Sorted.{ranks_by}
use Rattle.std.proofs.lemmas.List.Elements.{All-from_recursion, recursion_from_All, All-weaker, All-cons, All-head, All-tail}
use Rattle.std.proofs.lemmas.List.Sums.{sum_by-cons, count_by-le-length}
use Rattle.std.proofs.lemmas.Map.Keys.{Less-from_sorted, sorted_head, sorted_tail}
use Rattle.std.proofs.lemmas.Map.Views.{All-insert_key}
use Rattle.im_values.specs.declared.content.Content.{Content as Value}
use Rattle.im_values.specs.declared.content.Content.TheVariants.{Int, Text, Null}
use Rattle.im_values.specs.Order.{order, is_null}
use Rattle.im_values.specs.Sizes.{dictionary}
use Rattle.im_values.proofs.ForCallers.{order_total, order_same}
use Rattle.im_codes.specs.Dictionary.{present}
use Rattle.im_column.specs.Summaries.{added, sum_of}
use Rattle.im_codepred.specs.Tallies.{chosen, number, total, lesser, greater, least, greatest, some_of}

-- ---- a mask of all

pub chosen-whole : {A : Type 0} (mask : List Bool) (xs : List A) → length xs ≡ length mask → count_by (λ (b : Bool). b) mask ≡ length mask → chosen mask xs ≡ xs
chosen-whole [] [] same whole = refl
chosen-whole [] (x ∷ xs) same whole = absurd (omega (arith, same))
chosen-whole (b ∷ mask) [] same whole = refl
chosen-whole (true ∷ mask) (x ∷ xs) same whole =
    let one = sum_by-cons (λ (b : Bool). cond b 1 0) true mask in
    ap (λ l. x ∷ l) (chosen-whole mask xs (omega (arith, same)) (omega (arith, whole, one)))
chosen-whole (false ∷ mask) (x ∷ xs) same whole =
    let none = sum_by-cons (λ (b : Bool). cond b 1 0) false mask in
    absurd (omega (arith, whole, none, count_by-le-length (λ (b : Bool). b) mask))

-- ---- the sum, and how many are not NULL

sum-from : (z : ℤ) (vs : List Value) → fold added z vs ≡ fold (λ sum v. sum +ℤ number v) z vs
sum-from z [] = refl
sum-from z (Int n ∷ vs) = sum-from (z +ℤ n) vs
sum-from z (Text t ∷ vs) = sum-from z vs ∙ ap (λ s. fold (λ sum v. sum +ℤ number v) s vs) (sym (+ℤ_idr z))
sum-from z (Null ∷ vs) = sum-from z vs ∙ ap (λ s. fold (λ sum v. sum +ℤ number v) s vs) (sym (+ℤ_idr z))

pub sum-is : (vs : List Value) → sum_of vs ≡ total vs
sum-is vs = sum-from (pos 0) vs

pub present-count : (vs : List Value) → length (present vs) + count_by is_null vs ≡ length vs
present-count [] = refl
present-count (Int n ∷ vs) = let one = sum_by-cons (λ v. cond (is_null v) 1 0) (Int n) vs in omega (arith, present-count vs, one)
present-count (Text t ∷ vs) = let one = sum_by-cons (λ v. cond (is_null v) 1 0) (Text t) vs in omega (arith, present-count vs, one)
present-count (Null ∷ vs) = let one = sum_by-cons (λ v. cond (is_null v) 1 0) Null vs in omega (arith, present-count vs, one)

-- ---- laws of the lesser and the greater

weak : IsStrictWeakOrder (λ a b. is_lt (order a b))
weak = ranks_by order_total (λ v. v)

lesser-Null : (v : Value) → lesser v Null ≡ v
lesser-Null (Int n) = refl
lesser-Null (Text t) = refl
lesser-Null Null = refl

Null-lesser : (v : Value) → lesser Null v ≡ v
Null-lesser (Int n) = refl
Null-lesser (Text t) = refl
Null-lesser Null = refl

less : (r : Ordering) → is_lt r ≡ true → r ≡ Less
less Less h = refl
less Equal h = absurd cc
less Greater h = absurd cc

below : (a b c : Value) → is_lt (order a b) ≡ true → is_lt (order b c) ≡ true → is_lt (order a c) ≡ true
below a b c p q = ap is_lt (order_total.trans a b c (less _ p) (less _ q))

-- which of three is least, by what is known of each two
lesser_of_three : (a b c : Value) (p q r : Bool) → is_lt (order b a) ≡ p → is_lt (order c b) ≡ q → is_lt (order c a) ≡ r →
    lesser (lesser a b) c ≡ lesser a (lesser b c)
lesser_of_three a b c true true r p q s = rw (p, q, below c b a q p) refl
lesser_of_three a b c true false r p q s = rw (p, q, p) refl
lesser_of_three a b c false true r p q s = rw (p, q) refl
lesser_of_three a b c false false r p q s = rw (p, q, p, weak.chain c b a q p) refl

lesser-assoc : (a b c : Value) → lesser (lesser a b) c ≡ lesser a (lesser b c)
lesser-assoc a b c = lesser_of_three a b c _ _ _ refl refl refl

-- the greater of two values that are not NULL
abbrev upper : Value → Value → Value
upper a b = cond (is_lt (order a b)) b a

-- the one that is taken of two is taken the other way round too
turned : (a b : Value) (o : Ordering) → order a b ≡ o → cond (is_lt o) b a ≡ cond (is_lt (ordering_reverse o)) a b
turned a b Less e = refl
turned a b Equal e = order_same a b e
turned a b Greater e = refl

upper-comm : (a b : Value) → upper a b ≡ upper b a
upper-comm a b = turned a b (order a b) refl ∙ ap (λ o. cond (is_lt o) a b) (sym (order_total.antisymm b a))

turned-low : (a b : Value) (o : Ordering) → order b a ≡ o → cond (is_lt o) b a ≡ cond (is_lt (ordering_reverse o)) a b
turned-low a b Less e = refl
turned-low a b Equal e = sym (order_same b a e)
turned-low a b Greater e = refl

lesser-comm : (a b : Value) → lesser a b ≡ lesser b a
lesser-comm a b = turned-low a b (order b a) refl ∙ ap (λ o. cond (is_lt o) a b) (sym (order_total.antisymm a b))

Null-greater : (v : Value) → greater Null v ≡ v
Null-greater (Int n) = refl
Null-greater (Text t) = refl
Null-greater Null = refl

upper_of_three : (a b c : Value) (p q : Bool) → is_lt (order a b) ≡ p → is_lt (order b c) ≡ q → upper (upper a b) c ≡ upper a (upper b c)
upper_of_three a b c true true p q = rw (p, q, below a b c p q) refl
upper_of_three a b c true false p q = rw (p, q, p) refl
upper_of_three a b c false true p q = rw (p, q) refl
upper_of_three a b c false false p q = rw (p, q, p, weak.chain a b c p q) refl

greater-is : (a b : Value) → is_null a ≡ false → is_null b ≡ false → greater a b ≡ upper a b
greater-is a b p q = rw (q, p) refl

upper-some : (a b : Value) → is_null a ≡ false → is_null b ≡ false → is_null (upper a b) ≡ false
upper-some a b p q = elim (is_lt (order a b)) as (λ t. is_null (cond t b a) ≡ false) [ true ↦ q | false ↦ p ]

-- a value is NULL, or it is not
cases-null : (v : Value) → (v ≡ Null) ⊎ (is_null v ≡ false)
cases-null (Int n) = inr refl
cases-null (Text t) = inr refl
cases-null Null = inl refl

some-assoc : (a b c : Value) → is_null a ≡ false → is_null b ≡ false → is_null c ≡ false → greater (greater a b) c ≡ greater a (greater b c)
some-assoc a b c p q r =
    ap (λ v. greater v c) (greater-is a b p q)
    ∙ (greater-is (upper a b) c (upper-some a b p q) r
    ∙ (upper_of_three a b c _ _ refl refl ∙ sym (ap (greater a) (greater-is b c q r) ∙ greater-is a (upper b c) p (upper-some b c q r))))

greater-assoc : (a b c : Value) → greater (greater a b) c ≡ greater a (greater b c)
greater-assoc a b c =
    ⊎_elim (λ (h : c ≡ Null). rw h refl)
    (λ (r : is_null c ≡ false).
    ⊎_elim (λ (h : b ≡ Null). rw (h, Null-greater c) refl)
    (λ (q : is_null b ≡ false).
    ⊎_elim (λ (h : a ≡ Null). rw (h, Null-greater b, Null-greater (greater b c)) refl)
    (λ (p : is_null a ≡ false). some-assoc a b c p q r)
    (cases-null a))
    (cases-null b))
    (cases-null c)

greater-comm : (a b : Value) → greater a b ≡ greater b a
greater-comm a b =
    ⊎_elim (λ (h : a ≡ Null). rw (h, Null-greater b) refl)
    (λ (p : is_null a ≡ false).
    ⊎_elim (λ (h : b ≡ Null). rw (h, Null-greater a) refl)
    (λ (q : is_null b ≡ false). greater-is a b p q ∙ (upper-comm a b ∙ sym (greater-is b a q p)))
    (cases-null b))
    (cases-null a)

-- ---- the ends of a dictionary

-- the first of the values, one of which was put in its place
first-insert : (ks : List Value) (v : Value) → get_or (insert_key order ks v) 0 Null ≡ lesser (get_or ks 0 Null) v
first-insert [] v = sym (Null-lesser v)
first-insert (k ∷ ks) v = by (order v k)
  where
    by : (o : Ordering) → get_or (match_ordering o (v ∷ k ∷ ks) (k ∷ ks) (k ∷ insert_key order ks v)) 0 Null ≡ cond (is_lt o) v k
    by Less = refl
    by Equal = refl
    by Greater = refl

first-step : (a v first rest whole : Value) → whole ≡ lesser (lesser a v) rest → first ≡ lesser rest v → whole ≡ lesser a first
first-step a v first rest whole is put = is ∙ (lesser-assoc a v rest ∙ ap (lesser a) (lesser-comm v rest ∙ sym put))

first-from : (a : Value) (vs : List Value) → fold lesser a vs ≡ lesser a (get_or (dictionary vs) 0 Null)
first-from a [] = sym (lesser-Null a)
first-from a (Int n ∷ vs) = first-step a (Int n) _ (get_or (dictionary vs) 0 Null) _ (first-from (lesser a (Int n)) vs) (first-insert (dictionary vs) (Int n))
first-from a (Text t ∷ vs) = first-step a (Text t) _ (get_or (dictionary vs) 0 Null) _ (first-from (lesser a (Text t)) vs) (first-insert (dictionary vs) (Text t))
first-from a (Null ∷ vs) = ap (λ x. fold lesser x vs) (lesser-Null a) ∙ first-from a vs

-- the greatest of values that stand in any order
abbrev top : List Value → Value
top [] = Null
top (k ∷ ks) = greater k (top ks)

greater-self : (k : Value) → greater k k ≡ k
greater-self k =
    ⊎_elim (λ (h : k ≡ Null). rw h refl)
    (λ (p : is_null k ≡ false). greater-is k k p p ∙ elim (is_lt (order k k)) as (λ t. cond t k k ≡ k) [ true ↦ refl | false ↦ refl ])
    (cases-null k)

top-insert : (ks : List Value) (v : Value) → top (insert_key order ks v) ≡ greater (top ks) v
top-insert [] v = sym (Null-greater v)
top-insert (k ∷ ks) v = by (top-insert ks v) (order v k) refl
  where
    by : top (insert_key order ks v) ≡ greater (top ks) v → (o : Ordering) → order v k ≡ o →
        top (match_ordering o (v ∷ k ∷ ks) (k ∷ ks) (k ∷ insert_key order ks v)) ≡ greater (greater k (top ks)) v
    by rest Less e = greater-comm v (greater k (top ks))
    by rest Equal e =
        rw (order_same v k e)
        (sym (greater-assoc k (top ks) k ∙ (ap (greater k) (greater-comm (top ks) k) ∙ (sym (greater-assoc k k (top ks)) ∙ ap (λ x. greater x (top ks)) (greater-self k)))))
    by rest Greater e = ap (greater k) rest ∙ sym (greater-assoc k (top ks) v)

top-step : (a v whole rest put : Value) → whole ≡ greater (greater a v) rest → put ≡ greater rest v → whole ≡ greater a put
top-step a v whole rest put is in_place = is ∙ (greater-assoc a v rest ∙ ap (greater a) (greater-comm v rest ∙ sym in_place))

top-from : (a : Value) (vs : List Value) → fold greater a vs ≡ greater a (top (dictionary vs))
top-from a [] = refl
top-from a (Int n ∷ vs) = top-step a (Int n) _ (top (dictionary vs)) _ (top-from (greater a (Int n)) vs) (top-insert (dictionary vs) (Int n))
top-from a (Text t ∷ vs) = top-step a (Text t) _ (top (dictionary vs)) _ (top-from (greater a (Text t)) vs) (top-insert (dictionary vs) (Text t))
top-from a (Null ∷ vs) = top-from a vs

-- a value put in its place keeps a list sorted
sorted-cons : (x : Value) (xs : List Value) → All (λ y. order x y ≡ Less) xs → IsStrictlySortedBy order xs → IsStrictlySortedBy order (x ∷ xs)
unfolding IsStrictlySortedBy
sorted-cons x xs above sorted = (recursion_from_All (λ y. order x y ≡ Less) xs above, sorted)

sorted-nil : IsStrictlySortedBy order []
unfolding IsStrictlySortedBy
sorted-nil = tt

insert-sorted : (ks : List Value) (v : Value) → IsStrictlySortedBy order ks → IsStrictlySortedBy order (insert_key order ks v)
insert-sorted [] v sorted = sorted-cons v [] (λ k d inside. absurd (omega (arith, inside))) sorted-nil
insert-sorted (x ∷ xs) v sorted = by (insert-sorted xs v (sorted_tail order x xs sorted)) (order v x) refl
  where
    over : All (λ y. order x y ≡ Less) xs
    over = All-from_recursion (λ y. order x y ≡ Less) xs (sorted_head order x xs sorted)

    by : IsStrictlySortedBy order (insert_key order xs v) → (o : Ordering) → order v x ≡ o →
        IsStrictlySortedBy order (match_ordering o (v ∷ x ∷ xs) (x ∷ xs) (x ∷ insert_key order xs v))
    by rest Less e = sorted-cons v (x ∷ xs)
        (All-cons (λ y. order v y ≡ Less) x xs e (All-weaker (λ y. order x y ≡ Less) (λ y. order v y ≡ Less) (λ y up. order_total.trans v x y e up) xs over))
        sorted
    by rest Equal e = sorted
    by rest Greater e =
        let up : order x v ≡ Less = order_total.antisymm x v ∙ ap ordering_reverse e in
        sorted-cons x (insert_key order xs v) (All-insert_key order v (λ y. order x y ≡ Less) xs over up) rest

dictionary-sorted : (vs : List Value) → IsStrictlySortedBy order (dictionary vs)
dictionary-sorted [] = sorted-nil
dictionary-sorted (Int n ∷ vs) = insert-sorted (dictionary vs) (Int n) (dictionary-sorted vs)
dictionary-sorted (Text t ∷ vs) = insert-sorted (dictionary vs) (Text t) (dictionary-sorted vs)
dictionary-sorted (Null ∷ vs) = dictionary-sorted vs

dictionary-some : (vs : List Value) → All (λ v. is_null v ≡ false) (dictionary vs)
dictionary-some [] = λ k d inside. absurd (omega (arith, inside))
dictionary-some (Int n ∷ vs) = All-insert_key order (Int n) (λ v. is_null v ≡ false) (dictionary vs) (dictionary-some vs) refl
dictionary-some (Text t ∷ vs) = All-insert_key order (Text t) (λ v. is_null v ≡ false) (dictionary vs) (dictionary-some vs) refl
dictionary-some (Null ∷ vs) = dictionary-some vs

-- the greatest of values that rise is the last
last-behind : (k : Value) (ks : List Value) → IsStrictlySortedBy order (k ∷ ks) → All (λ v. is_null v ≡ false) (k ∷ ks) →
    top (k ∷ ks) ≡ get_or (k ∷ ks) (length ks) Null
last-behind k [] sorted some = refl
last-behind k (next ∷ ks) sorted some =
    let last = get_or (next ∷ ks) (length ks) Null in
    let behind = All-tail (λ v. is_null v ≡ false) k (next ∷ ks) some in
    let up : order k last ≡ Less = Less-from_sorted order (k ∷ next ∷ ks) 0 (suc (length ks)) Null sorted (omega arith) (omega arith) in
    let here : is_null k ≡ false = All-head (λ v. is_null v ≡ false) k (next ∷ ks) some in
    let there : is_null last ≡ false = behind (length ks) Null (omega arith) in
    ap (greater k) (last-behind next ks (sorted_tail order k (next ∷ ks) sorted) behind) ∙ (greater-is k last here there ∙ ap (λ o. cond (is_lt o) last k) up)

top-last : (ks : List Value) → IsStrictlySortedBy order ks → All (λ v. is_null v ≡ false) ks → top ks ≡ get_or ks (length ks - 1) Null
top-last [] sorted some = refl
top-last (k ∷ ks) sorted some =
    let place : length ks ≡ length (k ∷ ks) - 1 = omega arith in
    last-behind k ks sorted some ∙ ap (λ i. get_or (k ∷ ks) i Null) place

some-is : (v : Value) → is_null v ≡ false → Some v ≡ some_of v
some-is (Int n) some = refl
some-is (Text t) some = refl
some-is Null some = absurd (true≢false some)

end-is : (ks : List Value) (i : ℕ) → All (λ v. is_null v ≡ false) ks → slice_get ks i ≡ some_of (get_or ks i Null)
end-is [] i some = refl
end-is (k ∷ ks) zero some = some-is k (All-head (λ v. is_null v ≡ false) k ks some)
end-is (k ∷ ks) (suc i) some = end-is ks i (All-tail (λ v. is_null v ≡ false) k ks some)

-- the least of the bounds is the least value, and the greatest the greatest
pub least-is : (vs : List Value) → slice_get (dictionary vs) 0 ≡ some_of (least vs)
least-is vs =
    end-is (dictionary vs) 0 (dictionary-some vs)
    ∙ ap some_of (sym (first-from Null vs ∙ Null-lesser (get_or (dictionary vs) 0 Null)))

pub greatest-is : (vs : List Value) → slice_get (dictionary vs) (length (dictionary vs) - 1) ≡ some_of (greatest vs)
greatest-is vs =
    end-is (dictionary vs) (length (dictionary vs) - 1) (dictionary-some vs)
    ∙ ap some_of (sym (top-from Null vs ∙ (Null-greater (top (dictionary vs)) ∙ top-last (dictionary vs) (dictionary-sorted vs) (dictionary-some vs))))
