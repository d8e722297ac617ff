-- What is read off the summaries of a group is what its rows say.
use Rattle.std.proofs.Common.{◌≡◌, ℕ, suc, ◌+◌, ◌==◌, Bool, true, false, ◌&&◌, ◌||◌, cond, List, [], ◌∷◌, ◌++◌, length, map, fold, get_or, refl, sym, ap, ◌∙◌, subst, arith}
use Rattle.std.specs.List.{AllByRecursion, list_any}
use Rattle.std.proofs.lemmas.List.{append_assoc}
use Rattle.std.proofs.lemmas.Bool.Decides.{nat_tests}
use Rattle.std.specs.declared.cmp.Ordering.{Ordering}
use Rattle.std.specs.declared.cmp.Ordering.TheVariants.{Less, Equal, Greater}
use Rattle.std.specs.FinMap as map_of
use Rattle.im_values.specs.declared.content.Content.{Content as Value}
use Rattle.im_values.specs.declared.content.Content.TheVariants.{Null}
use Rattle.im_syntax.specs.declared.item.Function.{Function}
use Rattle.im_syntax.specs.declared.item.Function.TheVariants as function
use Rattle.im_syntax.specs.declared.item.ItemOf.{ItemOf}
use Rattle.im_syntax.specs.declared.item.ItemOf.TheVariants as item
use Rattle.im_syntax.specs.declared.bound.Bound.{Bound}
use Rattle.im_syntax.specs.BoundQuery.{is_listed}
use Rattle.im_group.specs.declared.asked.Asked.{Asked}
use Rattle.im_group.specs.declared.asked.End.{End}
use Rattle.im_group.specs.declared.asked.End.TheVariants as end
use Rattle.im_group.specs.Cells.{cell_of}
use Rattle.im_group.specs.Sums.{SumsOf, column_of, least, greatest, aggregate, reads, sums_of, no_sums, reading}
use Rattle.im_group.specs.Tallies.{Tallied, wanted, with_column, asks, asked_of, asked_in, tallied, place_of, sums_at}
use Rattle.im_group.specs.Partials.{Numbered, key_order, kept, members, keys_of, groups_of, Parts, partial}
use Rattle.im_group.proofs.Orders.{key_total}
use Rattle.im_group.specs.Answers.{row_cell, item_cell, rows_by_key, records, group_cell, group_records, part_records}

-- ---- lists

any-here : {A : Type 0} (p : A → Bool) (front : List A) (x : A) (rest : List A) → p x ≡ true → list_any p (front ++ x ∷ rest) ≡ true
any-here p [] x rest e = ap (λ b. b || list_any p rest) e
any-here p (y ∷ front) x rest e =
    elim (p y) as (λ b. (b || list_any p (front ++ x ∷ rest)) ≡ true) [ true ↦ refl | false ↦ any-here p front x rest e ]

any-more : {A : Type 0} (p : A → Bool) (xs ys : List A) → list_any p xs ≡ true → list_any p (xs ++ ys) ≡ true
any-more p [] ys e = absurd cc
any-more p (x ∷ xs) ys e = go (p x) e (any-more p xs ys)
  where
    go : (b : Bool) → (b || list_any p xs) ≡ true → (list_any p xs ≡ true → list_any p (xs ++ ys) ≡ true) → (b || list_any p (xs ++ ys)) ≡ true
    go true e more = refl
    go false e more = more e

itself : (n : ℕ) → (n == n) ≡ true
itself n = grind (arith, nat_tests)

-- ---- what is asked

-- the column of an aggregate is listed
abbrev IsListed : List ℕ → ItemOf ℕ → Type 0
IsListed cs (item.Column c) = Unit {0}
IsListed cs item.CountAll = Unit {0}
IsListed cs (item.Aggregate f c) = is_listed cs c ≡ true

listed-step : (cs : List ℕ) (i : ItemOf ℕ) (c : ℕ) → is_listed cs c ≡ true → is_listed (with_column cs i) c ≡ true
listed-step cs (item.Column d) c e = e
listed-step cs item.CountAll c e = e
listed-step cs (item.Aggregate f d) c e =
    elim (is_listed cs d) as (λ b. is_listed (cond b cs (cs ++ d ∷ [])) c ≡ true) [ true ↦ e | false ↦ any-more (λ other. other == c) cs (d ∷ []) e ]

listed-fold : (cs : List ℕ) (is : List (ItemOf ℕ)) (c : ℕ) → is_listed cs c ≡ true → is_listed (fold with_column cs is) c ≡ true
listed-fold cs [] c e = e
listed-fold cs (i ∷ is) c e = listed-fold (with_column cs i) is c (listed-step cs i c e)

listed-here : (cs : List ℕ) (c : ℕ) (b : Bool) → is_listed cs c ≡ b → is_listed (cond b cs (cs ++ c ∷ [])) c ≡ true
listed-here cs c true e = e
listed-here cs c false e = any-here (λ other. other == c) cs c [] (itself c)

listed-item : (cs : List ℕ) (is : List (ItemOf ℕ)) (i : ItemOf ℕ) → IsListed (fold with_column (with_column cs i) is) i
listed-item cs is (item.Column c) = tt
listed-item cs is item.CountAll = tt
listed-item cs is (item.Aggregate f c) =
    listed-fold (with_column cs (item.Aggregate f c)) is c (listed-here cs c (is_listed cs c) refl)

all_listed : (cs : List ℕ) (is : List (ItemOf ℕ)) → AllByRecursion (IsListed (fold with_column cs is)) is
all_listed cs [] = tt
all_listed cs (i ∷ is) = (listed-item cs is i, all_listed (with_column cs i) is)

-- the ends that an aggregate reads are asked for
abbrev HasEnds : List (ItemOf ℕ) → ItemOf ℕ → Type 0
HasEnds is (item.Column c) = Unit {0}
HasEnds is item.CountAll = Unit {0}
HasEnds is (item.Aggregate f c) = (e : End) → reads e f ≡ true → list_any (asks e c) is ≡ true

ends-item : (front : List (ItemOf ℕ)) (i : ItemOf ℕ) (is : List (ItemOf ℕ)) → HasEnds (front ++ i ∷ is) i
ends-item front (item.Column c) is = tt
ends-item front item.CountAll is = tt
ends-item front (item.Aggregate f c) is = λ e h.
    any-here (asks e c) front (item.Aggregate f c) is (ap (λ b. b && c == c) h ∙ itself c)

all_ends : (front is : List (ItemOf ℕ)) → AllByRecursion (HasEnds (front ++ is)) is
all_ends front [] = tt
all_ends front (i ∷ is) = (
  ends-item front i is,
  subst (λ whole. AllByRecursion (HasEnds whole) is) (append_assoc front (i ∷ []) is) (all_ends (front ++ i ∷ []) is),
)

-- ---- reading

-- the summary of a column that is listed
next_place : (s d : SumsOf) (ss : List SumsOf) (n : ℕ) → get_or (s ∷ ss) (n + 1) d ≡ get_or ss n d
next_place s d ss n = let up : n + 1 ≡ suc n = omega arith in ap (λ k. get_or (s ∷ ss) k d) up

found : (is : List (ItemOf ℕ)) (rows : List (List Value)) (cs : List ℕ) (c : ℕ) → is_listed cs c ≡ true
    → sums_at (map (asked_of is) cs) (map (λ a. sums_of a (column_of a.column rows)) (map (asked_of is) cs)) c ≡ sums_of (asked_of is c) (column_of c rows)
found is rows [] c e = absurd cc
found is rows (d ∷ cs) c e = go (d == c) refl e (found is rows cs c)
  where
    asked : List Asked
    asked = map (asked_of is) cs

    ss : List SumsOf
    ss = map (λ a. sums_of a (column_of a.column rows)) asked

    go : (b : Bool) → (d == c) ≡ b → (b || is_listed cs c) ≡ true
        → (is_listed cs c ≡ true → sums_at asked ss c ≡ sums_of (asked_of is c) (column_of c rows))
        → get_or (sums_of (asked_of is d) (column_of d rows) ∷ ss) (cond b 0 (place_of asked c + 1)) no_sums ≡ sums_of (asked_of is c) (column_of c rows)
    go true same h more = let equal : d ≡ c = grind (arith, nat_tests) in ap (λ x. sums_of (asked_of is x) (column_of x rows)) equal
    go false same h more = next_place (sums_of (asked_of is d) (column_of d rows)) no_sums ss (place_of asked c) ∙ more h

read : (f : Function) (is : List (ItemOf ℕ)) (c : ℕ) (vs : List Value) → ((e : End) → reads e f ≡ true → list_any (asks e c) is ≡ true)
    → reading f (sums_of (asked_of is c) vs) ≡ aggregate f vs
read function.Count is c vs ends = refl
read function.Sum is c vs ends = refl
read function.Min is c vs ends = ap (λ b. cell_of (cond b (least vs) Null)) (ends end.Least refl)
read function.Max is c vs ends = ap (λ b. cell_of (cond b (greatest vs) Null)) (ends end.Greatest refl)

module _ (columns : List ℕ) (key : List Value) (rows : List (List Value)) (is : List (ItemOf ℕ)) where
  cell-is : (i : ItemOf ℕ) → IsListed (fold with_column [] is) i → HasEnds is i
      → group_cell columns (asked_in is) key (tallied (asked_in is) rows) i ≡ item_cell columns key rows i
  unfolding asked_in
  cell-is (item.Column c) listed ends = refl
  cell-is item.CountAll listed ends = refl
  cell-is (item.Aggregate f c) listed ends =
      ap (reading f) (found is rows (fold with_column [] is) c listed) ∙ read f is c (column_of c rows) ends

  cells-are : (some : List (ItemOf ℕ)) → AllByRecursion (IsListed (fold with_column [] is)) some → AllByRecursion (HasEnds is) some
      → map (group_cell columns (asked_in is) key (tallied (asked_in is) rows)) some ≡ map (item_cell columns key rows) some
  cells-are [] listed ends = refl
  cells-are (i ∷ some) listed ends = λ j. cell-is i listed.0 ends.0 j ∷ cells-are some listed.1 ends.1 j

  pub cells-read : map (group_cell columns (asked_in is) key (tallied (asked_in is) rows)) is ≡ map (item_cell columns key rows) is
  cells-read = cells-are is (all_listed [] is) (all_ends [] is)

-- ---- the groups in the order of their keys

none_left : {A : Type 0} (xs : List A) → length xs ≡ 0 → xs ≡ []
none_left [] e = refl
none_left (x ∷ xs) e = absurd cc

pub no_entries : {Z : Type 0} → map_of.entries {X = Z} {R = key_order} map_of.empty ≡ []
no_entries {Z} = none_left _ (sym (map_of.len-entries {X = Z} {R = key_order} map_of.empty) ∙ map_of.len-empty key_order Z)

module _ {X Y : Type 0} (f : X → Y) where
  abbrev pub valued : List (List Value × X) → List (List Value × Y)
  valued es = map (λ e. (e.0, f e.1)) es

  put-valued : (k : List Value) (v : X) (es : List (List Value × X)) → map_of.put key_order k (f v) (valued es) ≡ valued (map_of.put key_order k v es)
  put-valued k v [] = refl
  put-valued k v (e ∷ es) = go (key_order k e.0) refl (put-valued k v es)
    where
      go : (o : Ordering) → key_order k e.0 ≡ o → map_of.put key_order k (f v) (valued es) ≡ valued (map_of.put key_order k v es)
          → map_of.put key_order k (f v) (valued (e ∷ es)) ≡ valued (map_of.put key_order k v (e ∷ es))
      go Less is more = rw is refl
      go Equal is more = rw is refl
      go Greater is more = rw is (ap (λ l. (e.0, f e.1) ∷ l) more)

  pub entries-valued : (h : List Value → X) (ks : List (List Value))
      → map_of.entries {R = key_order} (map_of.from_entries (map (λ k. (k, f (h k))) ks))
      ≡ valued (map_of.entries {R = key_order} (map_of.from_entries (map (λ k. (k, h k)) ks)))
  entries-valued h [] = no_entries ∙ sym (ap valued no_entries)
  entries-valued h (k ∷ ks) =
      map_of.entries-insert key_total (map_of.from_entries (map (λ k. (k, f (h k))) ks)) k (f (h k))
      ∙ (ap (map_of.put key_order k (f (h k))) (entries-valued h ks)
      ∙ (put-valued k (h k) (map_of.entries (map_of.from_entries (map (λ k. (k, h k)) ks)))
      ∙ ap valued (sym (map_of.entries-insert key_total (map_of.from_entries (map (λ k. (k, h k)) ks)) k (h k)))))

-- ---- the records of a part

each-record : (columns : List ℕ) (is : List (ItemOf ℕ)) (es : List (List Value × List (List Value)))
    → map (λ (g : List Value × Tallied). map (group_cell columns (asked_in is) g.0 g.1) is) (map (λ e. (e.0, tallied (asked_in is) e.1)) es)
    ≡ map (λ g. map (item_cell columns g.0 g.1) is) es
each-record columns is [] = refl
each-record columns is (e ∷ es) = λ j. cells-read columns e.0 e.1 is j ∷ each-record columns is es j

groups-record : (bound : Bound) (rows : List (List Value))
    → group_records bound.groups (wanted bound) (groups_of bound rows)
    ≡ map (λ g. map (item_cell bound.groups g.0 g.1) (wanted bound)) (map_of.entries (rows_by_key bound.groups rows))
groups-record bound rows =
    ap (map (λ (g : List Value × Tallied). map (group_cell bound.groups (asked_in (wanted bound)) g.0 g.1) (wanted bound)))
    (entries-valued (tallied (asked_in (wanted bound))) (members bound.groups rows) (keys_of bound.groups rows))
    ∙ each-record bound.groups (wanted bound) (map_of.entries (rows_by_key bound.groups rows))

abbrev part_of : Bool → Bound → List Numbered → Parts
part_of b bound found = cond b (record { rows = []; groups = groups_of bound (map (λ r. r.1) found) }) (record { rows = found; groups = map_of.empty })

-- the records of the part of all rows are those of the rows that the query keeps
pub records-part : (bound : Bound) (rows : List Numbered) → records bound (kept bound rows) ≡ part_records bound (partial bound rows)
records-part bound rows =
    let found = kept bound rows in
    let values = map (λ r. r.1) found in
    let plain = map (λ r. map (row_cell r.1) (wanted bound)) found in
    elim bound.grouped as (λ b. cond b (map (λ g. map (item_cell bound.groups g.0 g.1) (wanted bound)) (map_of.entries (rows_by_key bound.groups values))) plain
    ≡ cond b (group_records bound.groups (wanted bound)
    (part_of b bound found).groups)
    (map (λ r. map (row_cell r.1) (wanted bound))
    (part_of b bound found).rows)) [
      | true ↦ sym (groups-record bound values)
      | false ↦ refl
    ]
