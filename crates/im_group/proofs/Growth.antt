-- What a group has taken, once one row more has come, and of two lists of rows together.
use Rattle.std.proofs.Common.{◌≡◌, ℕ, ◌+◌, Bool, true, false, not, cond, List, [], ◌∷◌, ◌++◌, length, refl, sym, ap, ◌∙◌, arith}
use Rattle.std.specs.Prelude.{fold, ℤ, pos, ◌+ℤ◌, if◌then◌else◌}
use Rattle.std.proofs.lemmas.Int.{ints}
use Rattle.std.specs.Ordering.{is_lt}
use Rattle.std.specs.Cmp.{IsStrictWeakOrder}
use Rattle.std.specs.declared.cmp.Ordering.{Ordering}
use Rattle.std.specs.declared.cmp.Ordering.TheVariants.{Less, Equal, Greater}
use Rattle.std.proofs.lemmas.List.{map-append, length-append}
use Rattle.std.proofs.lemmas.List.Elements.{filter-append}
use Rattle.std.proofs.lemmas.List.Sums.{fold_push, fold-append}
use Rattle.std.proofs.lemmas.List.Sorted.{ranks_by}
use Rattle.im_values.specs.declared.content.Content.{Content as Value}
use Rattle.im_values.specs.declared.content.Content.TheVariants.{Int, Text, Null}
use Rattle.im_values.specs.Order.{order, is_null}
use Rattle.im_syntax.specs.BoundFits.{value_at}
use Rattle.im_group.specs.declared.asked.Asked.{Asked}
use Rattle.im_group.specs.Sums.{number, column_of, present, total, lesser, greater, sums_of, no_sums, taken, joined}
use Rattle.im_group.specs.Tallies.{tallied, row_taken, all_joined}
use Rattle.im_values.proofs.ForCallers.{order_total}

-- ---- one row more

column-push : (c : ℕ) (rows : List (List Value)) (row : List Value) → column_of c (rows ++ row ∷ []) ≡ column_of c rows ++ value_at row c ∷ []
column-push c rows row = map-append (λ r. value_at r c) rows (row ∷ [])

counted_one : (b : Bool) (v : Value) (vs : List Value) → length (vs ++ cond (not b) (v ∷ []) []) ≡ cond b (length vs) (length vs + 1)
counted_one true v vs = omega (arith, length-append vs [])
counted_one false v vs = length-append vs (v ∷ [])

-- one value more where it is not NULL
abbrev one_more : Value → ℕ → ℕ
one_more v n = if is_null v then n else n + 1

present-push : (vs : List Value) (v : Value) → length (present (vs ++ v ∷ [])) ≡ one_more v (length (present vs))
present-push vs v = ap length (filter-append (λ w. not (is_null w)) vs (v ∷ [])) ∙ counted_one (is_null v) v (present vs)

total-push : (vs : List Value) (v : Value) → total (vs ++ v ∷ []) ≡ total vs +ℤ number v
total-push vs v = fold_push (λ sum w. sum +ℤ number w) (pos 0) vs v

adds_nothing : (n : ℤ) → n +ℤ pos 0 ≡ n
adds_nothing n = omega (arith, ints)

end-push : (asked : Bool) (op : Value → Value → Value) (vs : List Value) (v : Value)
    → cond asked (fold op Null (vs ++ v ∷ [])) Null ≡ cond asked (op (cond asked (fold op Null vs) Null) v) (cond asked (fold op Null vs) Null)
end-push true op vs v = fold_push op Null vs v
end-push false op vs v = refl

sums-push : (a : Asked) (vs : List Value) (v : Value) → sums_of a (vs ++ v ∷ []) ≡ taken a (sums_of a vs) v
sums-push a vs (Int n) = λ i. record {
  values = present-push vs (Int n) i;
  total = total-push vs (Int n) i;
  least = end-push a.least lesser vs (Int n) i;
  greatest = end-push a.greatest greater vs (Int n) i;
}
sums-push a vs (Text t) = λ i. record {
  values = present-push vs (Text t) i;
  total = (total-push vs (Text t) ∙ adds_nothing (total vs)) i;
  least = end-push a.least lesser vs (Text t) i;
  greatest = end-push a.greatest greater vs (Text t) i;
}
sums-push a vs Null = λ i. record {
  values = present-push vs Null i;
  total = (total-push vs Null ∙ adds_nothing (total vs)) i;
  least = end-push a.least lesser vs Null i;
  greatest = end-push a.greatest greater vs Null i;
}

each-push : (qs : List Asked) (rows : List (List Value)) (row : List Value)
    → (tallied qs (rows ++ row ∷ [])).sums ≡ (row_taken qs (tallied qs rows) row).sums
each-push [] rows row = refl
each-push (a ∷ qs) rows row =
    λ i. (ap (sums_of a) (column-push a.column rows row) ∙ sums-push a (column_of a.column rows) (value_at row a.column)) i ∷ each-push qs rows row i

pub tallied-push : (qs : List Asked) (rows : List (List Value)) (row : List Value) → tallied qs (rows ++ row ∷ []) ≡ row_taken qs (tallied qs rows) row
tallied-push qs rows row = λ i. record { rows = length-append rows (row ∷ []) i; sums = each-push qs rows row i }

-- no row
no_end : (asked : Bool) → cond asked Null Null ≡ Null
no_end true = refl
no_end false = refl

pub sums_of-nil : (a : Asked) → sums_of a [] ≡ no_sums
sums_of-nil a = λ i. record { values = 0; total = pos 0; least = no_end a.least i; greatest = no_end a.greatest i }

-- ---- two lists of rows

module _ {A : Type 0} (op : A → A → A) (unit : A) (left_unit : (x : A) → op unit x ≡ x) (right_unit : (x : A) → op x unit ≡ x)
    (assoc : (x y z : A) → op (op x y) z ≡ op x (op y z)) where
  fold_from : (a : A) (xs : List A) → fold op a xs ≡ op a (fold op unit xs)
  fold_from a [] = sym (right_unit a)
  fold_from a (x ∷ xs) = fold_from (op a x) xs ∙ (assoc a x (fold op unit xs) ∙ ap (op a) (sym (ap (λ y. fold op y xs) (left_unit x) ∙ fold_from x xs)))

  fold_both : (xs ys : List A) → fold op unit (xs ++ ys) ≡ op (fold op unit xs) (fold op unit ys)
  fold_both xs ys = fold-append op unit xs ys ∙ fold_from (fold op unit xs) ys

weak : IsStrictWeakOrder (λ a b. is_lt (order a b))
weak = ranks_by order_total (λ v. v)

lesser-Null : (v : Value) → lesser v Null ≡ v
lesser-Null (Int n) = refl
lesser-Null (Text t) = refl
lesser-Null Null = refl

Null-lesser : (v : Value) → lesser Null v ≡ v
Null-lesser (Int n) = refl
Null-lesser (Text t) = refl
Null-lesser Null = refl

less : (r : Ordering) → is_lt r ≡ true → r ≡ Less
less Less h = refl
less Equal h = absurd cc
less Greater h = absurd cc

below : (a b c : Value) → is_lt (order a b) ≡ true → is_lt (order b c) ≡ true → is_lt (order a c) ≡ true
below a b c p q = ap is_lt (order_total.trans a b c (less _ p) (less _ q))

-- which of three is least, by what is known of each two
lesser_of_three : (a b c : Value) (p q r : Bool) → is_lt (order b a) ≡ p → is_lt (order c b) ≡ q → is_lt (order c a) ≡ r
    → lesser (lesser a b) c ≡ lesser a (lesser b c)
lesser_of_three a b c true true r p q s = rw (p, q, below c b a q p) refl
lesser_of_three a b c true false r p q s = rw (p, q, p) refl
lesser_of_three a b c false true r p q s = rw (p, q) refl
lesser_of_three a b c false false r p q s = rw (p, q, p, weak.chain c b a q p) refl

lesser-assoc : (a b c : Value) → lesser (lesser a b) c ≡ lesser a (lesser b c)
lesser-assoc a b c = lesser_of_three a b c _ _ _ refl refl refl

greater-Null : (v : Value) → greater v Null ≡ v
greater-Null v = refl

Null-greater : (v : Value) → greater Null v ≡ v
Null-greater (Int n) = refl
Null-greater (Text t) = refl
Null-greater Null = refl

-- the greater of two values that are not NULL
abbrev upper : Value → Value → Value
upper a b = if is_lt (order a b) then b else a

upper_of_three : (a b c : Value) (p q : Bool) → is_lt (order a b) ≡ p → is_lt (order b c) ≡ q → upper (upper a b) c ≡ upper a (upper b c)
upper_of_three a b c true true p q = rw (p, q, below a b c p q) refl
upper_of_three a b c true false p q = rw (p, q, p) refl
upper_of_three a b c false true p q = rw (p, q) refl
upper_of_three a b c false false p q = rw (p, q, p, weak.chain a b c p q) refl

greater-is : (a b : Value) → is_null a ≡ false → is_null b ≡ false → greater a b ≡ upper a b
greater-is a b p q = rw (q, p) refl

upper_not_null : (a b : Value) → is_null a ≡ false → is_null b ≡ false → is_null (upper a b) ≡ false
upper_not_null a b p q = elim (is_lt (order a b)) as (λ t. is_null (cond t b a) ≡ false) [ true ↦ q | false ↦ p ]

present_assoc : (a b c : Value) → is_null a ≡ false → is_null b ≡ false → is_null c ≡ false → greater (greater a b) c ≡ greater a (greater b c)
present_assoc a b c p q r =
    ap (λ v. greater v c) (greater-is a b p q) ∙ greater-is (upper a b) c (upper_not_null a b p q) r
    ∙ upper_of_three a b c _ _ refl refl
    ∙ sym (ap (greater a) (greater-is b c q r) ∙ greater-is a (upper b c) p (upper_not_null b c q r))

greater-assoc : (a b c : Value) → greater (greater a b) c ≡ greater a (greater b c)
greater-assoc a b Null = refl
greater-assoc a Null (Int n) = refl
greater-assoc a Null (Text t) = refl
greater-assoc Null (Int m) (Int n) = sym (Null-greater (greater (Int m) (Int n)))
greater-assoc Null (Int m) (Text t) = sym (Null-greater (greater (Int m) (Text t)))
greater-assoc Null (Text m) (Int n) = sym (Null-greater (greater (Text m) (Int n)))
greater-assoc Null (Text m) (Text t) = sym (Null-greater (greater (Text m) (Text t)))
greater-assoc (Int a) (Int b) (Int c) = present_assoc (Int a) (Int b) (Int c) refl refl refl
greater-assoc (Int a) (Int b) (Text c) = present_assoc (Int a) (Int b) (Text c) refl refl refl
greater-assoc (Int a) (Text b) (Int c) = present_assoc (Int a) (Text b) (Int c) refl refl refl
greater-assoc (Int a) (Text b) (Text c) = present_assoc (Int a) (Text b) (Text c) refl refl refl
greater-assoc (Text a) (Int b) (Int c) = present_assoc (Text a) (Int b) (Int c) refl refl refl
greater-assoc (Text a) (Int b) (Text c) = present_assoc (Text a) (Int b) (Text c) refl refl refl
greater-assoc (Text a) (Text b) (Int c) = present_assoc (Text a) (Text b) (Int c) refl refl refl
greater-assoc (Text a) (Text b) (Text c) = present_assoc (Text a) (Text b) (Text c) refl refl refl

column-append : (c : ℕ) (xs ys : List (List Value)) → column_of c (xs ++ ys) ≡ column_of c xs ++ column_of c ys
column-append c xs ys = map-append (λ r. value_at r c) xs ys

present-append : (vs ws : List Value) → length (present (vs ++ ws)) ≡ length (present vs) + length (present ws)
present-append vs ws = ap length (filter-append (λ w. not (is_null w)) vs ws) ∙ length-append (present vs) (present ws)

total_from : (n : ℤ) (vs : List Value) → fold (λ sum v. sum +ℤ number v) n vs ≡ n +ℤ total vs
total_from n [] = sym (adds_nothing n)
total_from n (v ∷ vs) =
    let whole = total_from (n +ℤ number v) vs in
    let rest = total_from (pos 0 +ℤ number v) vs in
    omega (arith, ints)

total-append : (vs ws : List Value) → total (vs ++ ws) ≡ total vs +ℤ total ws
total-append vs ws = fold-append (λ sum v. sum +ℤ number v) (pos 0) vs ws ∙ total_from (total vs) ws

end-append : (asked : Bool) (op : Value → Value → Value) (xs ys : List Value) → op Null Null ≡ Null
    → fold op Null (xs ++ ys) ≡ op (fold op Null xs) (fold op Null ys)
    → cond asked (fold op Null (xs ++ ys)) Null ≡ op (cond asked (fold op Null xs) Null) (cond asked (fold op Null ys) Null)
end-append true op xs ys none both = both
end-append false op xs ys none both = sym none

sums-append : (a : Asked) (xs ys : List Value) → sums_of a (xs ++ ys) ≡ joined (sums_of a xs) (sums_of a ys)
sums-append a xs ys = λ i. record {
  values = present-append xs ys i;
  total = total-append xs ys i;
  least = end-append a.least lesser xs ys refl (fold_both lesser Null Null-lesser lesser-Null lesser-assoc xs ys) i;
  greatest = end-append a.greatest greater xs ys refl (fold_both greater Null Null-greater greater-Null greater-assoc xs ys) i;
}

each-append : (qs : List Asked) (xs ys : List (List Value)) → (tallied qs (xs ++ ys)).sums ≡ (all_joined (tallied qs xs) (tallied qs ys)).sums
each-append [] xs ys = refl
each-append (a ∷ qs) xs ys =
    λ i. (ap (sums_of a) (column-append a.column xs ys) ∙ sums-append a (column_of a.column xs) (column_of a.column ys)) i ∷ each-append qs xs ys i

pub tallied-append : (qs : List Asked) (xs ys : List (List Value)) → tallied qs (xs ++ ys) ≡ all_joined (tallied qs xs) (tallied qs ys)
tallied-append qs xs ys = λ i. record { rows = length-append xs ys i; sums = each-append qs xs ys i }
