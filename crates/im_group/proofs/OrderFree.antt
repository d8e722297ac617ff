-- What rows give to a grouped query does not depend on the order of the rows.
use Rattle.std.proofs.Common.{◌≡◌, ℕ, ◌+◌, Bool, true, false, cond, List, [], ◌∷◌, ◌++◌, map, None, Some, refl, sym, ap, ◌∙◌, arith}
use Rattle.std.specs.Prelude.{ℤ, ◌+ℤ◌}
use Rattle.std.specs.Ordering.{is_lt, ordering_reverse}
use Rattle.std.specs.declared.cmp.Ordering.{Ordering}
use Rattle.std.specs.declared.cmp.Ordering.TheVariants.{Less, Equal, Greater}
use Rattle.std.specs.FinMap as map_of
use Rattle.std.proofs.lemmas.Int.{ints}
use Rattle.std.proofs.lemmas.List.{map-append, append_assoc}
use Rattle.im_values.specs.declared.content.Content.{Content as Value}
use Rattle.im_values.specs.declared.content.Content.TheVariants.{Int, Text, Null}
use Rattle.im_values.specs.Order.{order}
use Rattle.im_values.proofs.ForCallers.{order_total, order_same}
use Rattle.im_syntax.specs.declared.bound.Bound.{Bound}
use Rattle.im_group.specs.declared.asked.Asked.{Asked}
use Rattle.im_group.specs.Sums.{SumsOf, column_of, lesser, greater, sums_of, joined}
use Rattle.im_group.specs.Tallies.{wanted, asked_in, tallied, all_joined}
use Rattle.im_group.specs.Partials.{Numbered, Parts, kept, members, tallies_of, keys_of, groups_of, merged, partial}
use Rattle.im_group.specs.Interleaved.{Interleaves, nothing, from_front, from_back}
use Rattle.im_group.proofs.Growth.{tallied-append}
use Rattle.im_group.proofs.GroupLemmas.{stands, get-groups_of}
use Rattle.im_group.proofs.Orders.{key_total, key_same}
use Rattle.im_group.proofs.Parts.{members-append, stands-append, kept-append, merged-partial}

-- ---- one summary

lesser-swap : (a b : Value) → lesser a b ≡ lesser b a
lesser-swap a b = go (order a b) refl
  where
    go : (r : Ordering) → order a b ≡ r → lesser a b ≡ lesser b a
    go Less e = rw (e, order_total.antisymm b a ∙ ap ordering_reverse e) refl
    go Equal e = λ i. lesser (order_same a b e i) (sym (order_same a b e) i)
    go Greater e = rw (e, order_total.antisymm b a ∙ ap ordering_reverse e) refl

-- the greater of two values that are not NULL
abbrev upper : Value → Value → Value
upper a b = cond (is_lt (order a b)) b a

upper-swap : (a b : Value) → upper a b ≡ upper b a
upper-swap a b = go (order a b) refl
  where
    go : (r : Ordering) → order a b ≡ r → upper a b ≡ upper b a
    go Less e = rw (e, order_total.antisymm b a ∙ ap ordering_reverse e) refl
    go Equal e = λ i. upper (order_same a b e i) (sym (order_same a b e) i)
    go Greater e = rw (e, order_total.antisymm b a ∙ ap ordering_reverse e) refl

greater-swap : (a b : Value) → greater a b ≡ greater b a
greater-swap Null Null = refl
greater-swap Null (Int n) = refl
greater-swap Null (Text t) = refl
greater-swap (Int m) Null = refl
greater-swap (Text s) Null = refl
greater-swap (Int m) (Int n) = upper-swap (Int m) (Int n)
greater-swap (Int m) (Text t) = upper-swap (Int m) (Text t)
greater-swap (Text s) (Int n) = upper-swap (Text s) (Int n)
greater-swap (Text s) (Text t) = upper-swap (Text s) (Text t)

counts-swap : (m n : ℕ) → m + n ≡ n + m
counts-swap m n = omega arith

totals-swap : (m n : ℤ) → m +ℤ n ≡ n +ℤ m
totals-swap m n = omega (arith, ints)

joined-swap : (s t : SumsOf) → joined s t ≡ joined t s
joined-swap s t = λ i. record {
  values = counts-swap s.values t.values i;
  total = totals-swap s.total t.total i;
  least = lesser-swap s.least t.least i;
  greatest = greater-swap s.greatest t.greatest i;
}

-- ---- one group

each-swap : (qs : List Asked) (xs ys : List (List Value)) → (all_joined (tallied qs xs) (tallied qs ys)).sums ≡ (all_joined (tallied qs ys) (tallied qs xs)).sums
each-swap [] xs ys = refl
each-swap (a ∷ qs) xs ys =
    λ i. joined-swap (sums_of a (column_of a.column xs)) (sums_of a (column_of a.column ys)) i ∷ each-swap qs xs ys i

tallied-swap : (qs : List Asked) (xs ys : List (List Value)) → tallied qs (xs ++ ys) ≡ tallied qs (ys ++ xs)
tallied-swap qs xs ys =
    tallied-append qs xs ys
    ∙ ((λ i. record { rows = counts-swap (tallied qs xs).rows (tallied qs ys).rows i; sums = each-swap qs xs ys i })
    ∙ sym (tallied-append qs ys xs))

tallies-swap : (bound : Bound) (xs ys : List (List Value)) (q : List Value) → tallies_of bound (xs ++ ys) q ≡ tallies_of bound (ys ++ xs) q
tallies-swap bound xs ys q =
    let asked = asked_in (wanted bound) in
    ap (tallied asked) (members-append bound xs ys q)
    ∙ (tallied-swap asked (members bound.groups xs q) (members bound.groups ys q)
    ∙ ap (tallied asked) (sym (members-append bound ys xs q)))

-- ---- all groups

either-swap : (a b : Bool) → cond a true b ≡ cond b true a
either-swap true true = refl
either-swap true false = refl
either-swap false true = refl
either-swap false false = refl

stands-swap : (columns : List ℕ) (xs ys : List (List Value)) (q : List Value) → stands q (keys_of columns (xs ++ ys)) ≡ stands q (keys_of columns (ys ++ xs))
stands-swap columns xs ys q =
    stands-append columns xs ys q
    ∙ (either-swap (stands q (keys_of columns xs)) (stands q (keys_of columns ys)) ∙ sym (stands-append columns ys xs q))

groups-swap : (bound : Bound) (xs ys : List (List Value)) → groups_of bound (xs ++ ys) ≡ groups_of bound (ys ++ xs)
groups-swap bound xs ys = map_of.same_map key_total key_same _ _ (λ q.
    get-groups_of bound (xs ++ ys) q
    ∙ ((λ i. cond (stands-swap bound.groups xs ys q i) (Some (tallies-swap bound xs ys q i)) None)
    ∙ sym (get-groups_of bound (ys ++ xs) q)))

-- ---- a part

-- the part of these kept rows, by whether the query is grouped
abbrev part_of : Bool → Bound → List Numbered → Parts
part_of b bound found = cond b (record { rows = []; groups = groups_of bound (map (λ r. r.1) found) }) (record { rows = found; groups = map_of.empty })

values-append : (bound : Bound) (front back : List Numbered)
    → map (λ r. r.1) (kept bound (front ++ back)) ≡ map (λ r. r.1) (kept bound front) ++ map (λ r. r.1) (kept bound back)
values-append bound front back = ap (map (λ r. r.1)) (kept-append bound front back) ∙ map-append (λ r. r.1) (kept bound front) (kept bound back)

module _ (bound : Bound) (grouped : bound.grouped ≡ true) where
  pub partial-swap : (front back : List Numbered) → partial bound (front ++ back) ≡ partial bound (back ++ front)
  partial-swap front back =
      let groups : map_of.FinMap _ _ → Parts = λ g. record { rows = []; groups = g } in
      ap (λ b. part_of b bound (kept bound (front ++ back))) grouped
      ∙ (ap groups (ap (groups_of bound) (values-append bound front back)
      ∙ (groups-swap bound (map (λ r. r.1) (kept bound front)) (map (λ r. r.1) (kept bound back))
      ∙ ap (groups_of bound) (sym (values-append bound back front))))
      ∙ sym (ap (λ b. part_of b bound (kept bound (back ++ front))) grouped))

  one_before : (row : Numbered) (xs ys : List Numbered) → partial bound xs ≡ partial bound ys → partial bound (row ∷ xs) ≡ partial bound (row ∷ ys)
  one_before row xs ys same =
      sym (merged-partial bound (row ∷ []) xs) ∙ (ap (merged (partial bound (row ∷ []))) same ∙ merged-partial bound (row ∷ []) ys)

  -- a row may stand behind the rows of the front
  behind_front : (row : Numbered) (front back : List Numbered) → partial bound (row ∷ front ++ back) ≡ partial bound (front ++ row ∷ back)
  behind_front row front back =
      sym (merged-partial bound (row ∷ front) back)
      ∙ (ap (λ part. merged part (partial bound back)) (partial-swap (row ∷ []) front)
      ∙ (merged-partial bound (front ++ row ∷ []) back
      ∙ ap (partial bound) (append_assoc front (row ∷ []) back)))

  pub partial-interleaved : {front back whole : List Numbered} → Interleaves front back whole → partial bound whole ≡ partial bound (front ++ back)
  partial-interleaved nothing = refl
  partial-interleaved (from_front {x = row} {front = front} {back = back} {whole = whole} rest) =
      one_before row whole (front ++ back) (partial-interleaved rest)
  partial-interleaved (from_back {x = row} {front = front} {back = back} {whole = whole} rest) =
      one_before row whole (front ++ back) (partial-interleaved rest) ∙ behind_front row front back
