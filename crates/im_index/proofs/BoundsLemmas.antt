-- The bounds of a list of values hold each of them.
use Rattle.std.proofs.Common.{◌≡◌, ℕ, zero, suc, ◌-◌, ◌<◌, ◌≤◌, false, List, [], ◌∷◌, length, get_or, slice_get, Some, All, Contains, ⊎_elim, sym, refl, ap, ◌∙◌, arith}
use Rattle.std.specs.Cmp.{tied_itself}
use Rattle.std.specs.List.Sorted.{IsStrictlySortedBy}
use Rattle.std.specs.Ordering.{is_lt, match_ordering, ordering_reverse}
use Rattle.std.specs.declared.cmp.Ordering.{Ordering}
use Rattle.std.specs.declared.cmp.Ordering.TheVariants.{Less, Equal, Greater}
use Rattle.std.specs.BTreeSet.{insert_key}
use Rattle.std.proofs.lemmas.List.Elements.{All-from_recursion, recursion_from_All, All-weaker, All-cons}
use Rattle.std.proofs.lemmas.Bool.{cases_lt}
use Rattle.std.proofs.lemmas.Option.{slice_get-get_or}
use Rattle.std.proofs.lemmas.Map.Keys.{Less-from_sorted, sorted_head, sorted_tail}
use Rattle.std.proofs.lemmas.Map.Views.{All-insert_key}
use Rattle.im_values.specs.declared.content.Content.{Content as Value}
use Rattle.im_values.specs.declared.content.Content.TheVariants.{Int, Text, Null}
use Rattle.im_values.specs.Order.{order, is_null}
use Rattle.im_values.specs.Sizes.{dictionary}
use Rattle.im_values.proofs.ForCallers.{order_total, order_same}
use Rattle.im_index.proofs.OrderLemmas.{IsWithin}

sorted-cons : (x : Value) (xs : List Value) → All (λ y. order x y ≡ Less) xs → IsStrictlySortedBy order xs → IsStrictlySortedBy order (x ∷ xs)
unfolding IsStrictlySortedBy
sorted-cons x xs above sorted = (recursion_from_All (λ y. order x y ≡ Less) xs above, sorted)

sorted-nil : IsStrictlySortedBy order []
unfolding IsStrictlySortedBy
sorted-nil = tt

-- a value put in its place keeps a list sorted
insert-sorted : (ks : List Value) (v : Value) → IsStrictlySortedBy order ks → IsStrictlySortedBy order (insert_key order ks v)
insert-sorted [] v sorted = sorted-cons v [] (λ k d inside. absurd (omega (arith, inside))) sorted-nil
insert-sorted (x ∷ xs) v sorted = by (insert-sorted xs v (sorted_tail order x xs sorted)) (order v x) refl
  where
    over : All (λ y. order x y ≡ Less) xs
    over = All-from_recursion (λ y. order x y ≡ Less) xs (sorted_head order x xs sorted)

    by : IsStrictlySortedBy order (insert_key order xs v) → (o : Ordering) → order v x ≡ o →
        IsStrictlySortedBy order (match_ordering o (v ∷ x ∷ xs) (x ∷ xs) (x ∷ insert_key order xs v))
    by rest Less e = sorted-cons v (x ∷ xs)
        (All-cons (λ y. order v y ≡ Less) x xs e (All-weaker (λ y. order x y ≡ Less) (λ y. order v y ≡ Less) (λ y up. order_total.trans v x y e up) xs over))
        sorted
    by rest Equal e = sorted
    by rest Greater e =
        let up : order x v ≡ Less = order_total.antisymm x v ∙ ap ordering_reverse e in
        sorted-cons x (insert_key order xs v) (All-insert_key order v (λ y. order x y ≡ Less) xs over up) rest

held-behind : (x : Value) (xs : List Value) (w : Value) → Contains xs w → Contains (x ∷ xs) w
held-behind x xs w held = (suc held.0, omega (arith, held.1), held.2)

-- a value put in its place is there
insert-held : (ks : List Value) (v : Value) → Contains (insert_key order ks v) v
insert-held [] v = (0, omega arith, refl)
insert-held (x ∷ xs) v = by (insert-held xs v) (order v x) refl
  where
    by : Contains (insert_key order xs v) v → (o : Ordering) → order v x ≡ o →
        Contains (match_ordering o (v ∷ x ∷ xs) (x ∷ xs) (x ∷ insert_key order xs v)) v
    by rest Less e = (0, omega arith, refl)
    by rest Equal e = (0, omega arith, sym (order_same v x e))
    by rest Greater e = held-behind x (insert_key order xs v) v rest

-- and so is each that was there
insert-keeps : (ks : List Value) (v w : Value) → Contains ks w → Contains (insert_key order ks v) w
insert-keeps [] v w held = absurd (omega (arith, held.1))
insert-keeps (x ∷ xs) v w held = by (insert-keeps xs v w) (order v x) held
  where
    by : (Contains xs w → Contains (insert_key order xs v) w) → (o : Ordering) → Contains (x ∷ xs) w →
        Contains (match_ordering o (v ∷ x ∷ xs) (x ∷ xs) (x ∷ insert_key order xs v)) w
    by rest Less h = held-behind v (x ∷ xs) w h
    by rest Equal h = h
    by rest Greater (zero, inside, is) = (0, omega arith, is)
    by rest Greater (suc k, inside, is) = held-behind x (insert_key order xs v) w (rest (k, omega (arith, inside), is))

dictionary-sorted : (values : List Value) → IsStrictlySortedBy order (dictionary values)
dictionary-sorted [] = sorted-nil
dictionary-sorted (Int a ∷ values) = insert-sorted (dictionary values) (Int a) (dictionary-sorted values)
dictionary-sorted (Text a ∷ values) = insert-sorted (dictionary values) (Text a) (dictionary-sorted values)
dictionary-sorted (Null ∷ values) = dictionary-sorted values

-- each value that is not NULL stands in the dictionary
dictionary-held : (values : List Value) (w : Value) → is_null w ≡ false → Contains values w → Contains (dictionary values) w
dictionary-held [] w some held = absurd (omega (arith, held.1))
dictionary-held (Int a ∷ values) w some (zero, inside, is) = rw (← is) (insert-held (dictionary values) (Int a))
dictionary-held (Text a ∷ values) w some (zero, inside, is) = rw (← is) (insert-held (dictionary values) (Text a))
dictionary-held (Null ∷ values) w some (zero, inside, is) = absurd (let null = ap is_null is in cc)
dictionary-held (Int a ∷ values) w some (suc k, inside, is) =
    insert-keeps (dictionary values) (Int a) w (dictionary-held values w some (k, omega (arith, inside), is))
dictionary-held (Text a ∷ values) w some (suc k, inside, is) =
    insert-keeps (dictionary values) (Text a) w (dictionary-held values w some (k, omega (arith, inside), is))
dictionary-held (Null ∷ values) w some (suc k, inside, is) = dictionary-held values w some (k, omega (arith, inside), is)

-- a value of a sorted list is neither below its first nor above its last
not-below-itself : (x : Value) → is_lt (order x x) ≡ false
not-below-itself x = ap is_lt (tied_itself order_total x)

not-below : (x y : Value) → order x y ≡ Less → is_lt (order y x) ≡ false
not-below x y up = ap is_lt (order_total.antisymm y x ∙ ap ordering_reverse up)

at-or-over : (ks : List Value) (i j : ℕ) (d : Value) → IsStrictlySortedBy order ks → i ≤ j → j < length ks →
    is_lt (order (get_or ks j d) (get_or ks i d)) ≡ false
at-or-over ks i j d sorted up inside =
    ⊎_elim (λ (under : i < j). not-below (get_or ks i d) (get_or ks j d) (Less-from_sorted order ks i j d sorted under inside))
    (λ (at : j ≤ i). let e : j ≡ i = omega arith in ap (λ n. is_lt (order (get_or ks n d) (get_or ks i d))) e ∙ not-below-itself (get_or ks i d))
    (cases_lt i j)

pub record HasEnds (rising : List Value) (x : Value) : Type 0 where
  pub least : Value
  pub greatest : Value
  pub first : slice_get rising 0 ≡ Some least
  pub last : slice_get rising (length rising - 1) ≡ Some greatest
  pub within : IsWithin least greatest x

-- the bounds of a list hold each of its values that is not NULL
pub has-ends : (values : List Value) (x : Value) → is_null x ≡ false → Contains values x → HasEnds (dictionary values) x
has-ends values x some held = record {
  least = get_or (dictionary values) 0 x;
  greatest = get_or (dictionary values) (length (dictionary values) - 1) x;
  first = slice_get-get_or (dictionary values) 0 x (omega (arith, there.1));
  last = slice_get-get_or (dictionary values) (length (dictionary values) - 1) x (omega (arith, there.1));
  within = record {
    over = ap (λ y. is_lt (order y (get_or (dictionary values) 0 x))) (sym there.2)
        ∙ at-or-over (dictionary values) 0 there.0 x sorted (omega arith) there.1;
    under = ap (λ y. is_lt (order (get_or (dictionary values) (length (dictionary values) - 1) x) y)) (sym there.2)
        ∙ at-or-over (dictionary values) there.0 (length (dictionary values) - 1) x sorted (omega (arith, there.1)) (omega (arith, there.1));
  };
}
  where
    there : Contains (dictionary values) x
    there = dictionary-held values x some held

    sorted : IsStrictlySortedBy order (dictionary values)
    sorted = dictionary-sorted values
