-- What a query asks of the counts of groups is what the groups of the rows have.
use Rattle.std.proofs.Common.{◌≡◌, ℕ, zero, suc, ◌+◌, ◌<◌, Bool, true, false, cond, List, [], ◌∷◌, length, map, filter, get_or, None, Some, is_some, ◌⊎◌, inl, inr, ⊎_elim, refl, sym, ap, ◌∙◌, subst, arith}
use Rattle.std.specs.declared.cmp.Ordering.{Ordering}
use Rattle.std.specs.declared.cmp.Ordering.TheVariants.{Less, Equal, Greater}
use Rattle.std.specs.List.{AllByRecursion, range_with_len}
use Rattle.std.specs.FinMap as map_of
use Rattle.std.proofs.lemmas.List.FromFn.{get_or-map-range_with_len}
use Rattle.im_values.specs.declared.content.Content.{Content as Value}
use Rattle.im_syntax.specs.declared.bound.Bound.{Bound}
use Rattle.im_syntax.specs.BoundFits.{BoundFits}
use Rattle.im_group.specs.declared.asked.Asked.{Asked}
use Rattle.im_group.specs.Sums.{column_of, sums_of, no_sums}
use Rattle.im_group.specs.Tallies.{Tallied, wanted, asked_in, tallied}
use Rattle.im_group.specs.Partials.{Numbered, key_order, keeps, key_of, is_key, members, keys_of, tallies_of, groups_of}
use Rattle.im_group.specs.Answers.{rows_by_key}
use Rattle.im_group.specs.MadeGroups.{AreGroupsOf, kept_values}
use Rattle.im_group.specs.Counts.{AreCountsOf, counts_of, counts_of_rows, counts}
use Rattle.im_group.specs.inner.Narrowing.{picked, narrowed, narrowed_group}
use Rattle.im_group.proofs.AskedLemmas.{asked_fit}
use Rattle.im_group.proofs.GroupLemmas.{stands, get-groups_of}
use Rattle.im_group.proofs.MadeLaws.{among-stands}
use Rattle.im_group.proofs.Orders.{key_total, key_same}
use Rattle.im_group.proofs.ReadingLaws.{no_entries, entries-valued}

-- ---- one group

-- the counts of no value
none_at : (first width column : ℕ) → get_or (map (λ column. counts_of (column_of column [])) (range_with_len first width)) column no_sums ≡ no_sums
none_at first zero column = refl
none_at first (suc width) zero = refl
none_at first (suc width) (suc column) = none_at (first + 1) width column

-- a column stands among the first, or there is no row
abbrev IsCounted : ℕ → List (List Value) → Asked → Type 0
IsCounted width rows asked = (asked.column < width) ⊎ (rows ≡ [])

picked-is : (width : ℕ) (rows : List (List Value)) (asked : Asked) → IsCounted width rows asked
    → picked (counts_of_rows width rows).sums asked ≡ sums_of asked (column_of asked.column rows)
picked-is width rows asked counted =
    ap (narrowed asked) (⊎_elim
    (λ (lt : asked.column < width).
    get_or-map-range_with_len (λ column. counts_of (column_of column rows)) 0 width asked.column asked.column no_sums lt (omega arith))
    (λ (none : rows ≡ []).
    ap (λ rows. get_or (counts_of_rows width rows).sums asked.column no_sums) none
    ∙ (none_at 0 width asked.column ∙ ap (λ rows. counts_of (column_of asked.column rows)) (sym none)))
    counted)

picked-all : (width : ℕ) (rows : List (List Value)) (asked : List Asked) → AllByRecursion (IsCounted width rows) asked
    → map (picked (counts_of_rows width rows).sums) asked ≡ (tallied asked rows).sums
picked-all width rows [] all = refl
picked-all width rows (a ∷ qs) all = λ i. picked-is width rows a all.0 i ∷ picked-all width rows qs all.1 i

-- a row of so many values, of which the query may be asked
record MayCount (bound : Bound) (width : ℕ) (row : List Value) : Type 0 where
  pub wide : length row ≡ width
  pub fits : BoundFits row bound

none-counted : (width : ℕ) (asked : List Asked) → AllByRecursion (IsCounted width []) asked
none-counted width [] = tt
none-counted width (a ∷ qs) = (inr refl, none-counted width qs)

some-counted : (width size : ℕ) (rows : List (List Value)) (asked : List Asked) → size ≡ width → AllByRecursion (λ a. a.column < size) asked
    → AllByRecursion (IsCounted width rows) asked
some-counted width size rows [] same all = tt
some-counted width size rows (a ∷ qs) same all = (inl (subst (λ n. a.column < n) same all.0), some-counted width size rows qs same all.1)

are-counted : (bound : Bound) (width : ℕ) (rows : List (List Value)) → AllByRecursion (MayCount bound width) rows
    → AllByRecursion (IsCounted width rows) (asked_in (wanted bound))
are-counted bound width [] all = none-counted width (asked_in (wanted bound))
are-counted bound width (row ∷ rows) all =
    some-counted width (length row) (row ∷ rows) (asked_in (wanted bound)) (all.0).wide (asked_fit row bound (all.0).fits)

-- ---- all groups

each-narrowed : (bound : Bound) (width : ℕ) (es : List (List Value × List (List Value))) → AllByRecursion (λ e. AllByRecursion (MayCount bound width) e.1) es
    → map (narrowed_group (asked_in (wanted bound))) (map (λ g. (g.0, counts_of_rows width g.1)) es) ≡ map (λ e. (e.0, tallied (asked_in (wanted bound)) e.1)) es
each-narrowed bound width [] all = refl
each-narrowed bound width (e ∷ es) all =
    λ i. (e.0, record { rows = length e.1; sums = picked-all width e.1 (asked_in (wanted bound)) (are-counted bound width e.1 all.0) i })
    ∷ each-narrowed bound width es all.1 i

-- what holds of each group that is put into a map holds of each of its entries
module _ {X : Type 0} (P : List Value × X → Type 0) where
  put-all : (k : List Value) (v : X) (es : List (List Value × X)) → P (k, v) → AllByRecursion P es → AllByRecursion P (map_of.put key_order k v es)
  put-all k v [] here all = (here, tt)
  put-all k v (e ∷ es) here all = go (key_order k e.0) refl (put-all k v es here all.1)
    where
      go : (o : Ordering) → key_order k e.0 ≡ o → AllByRecursion P (map_of.put key_order k v es) → AllByRecursion P (map_of.put key_order k v (e ∷ es))
      go Less is more = rw is (here, all)
      go Equal is more = rw is (subst (λ q. P (q, v)) (key_same k e.0 is) here, all.1)
      go Greater is more = rw is (all.0, more)

  entries-all : (h : List Value → X) (ks : List (List Value)) → ((k : List Value) → P (k, h k))
      → AllByRecursion P (map_of.entries {R = key_order} (map_of.from_entries (map (λ k. (k, h k)) ks)))
  entries-all h [] each = subst (AllByRecursion P) (sym (no_entries {Z = X})) tt
  entries-all h (k ∷ ks) each =
      subst (AllByRecursion P) (sym (map_of.entries-insert key_total (map_of.from_entries (map (λ k. (k, h k)) ks)) k (h k)))
      (put-all k (h k) (map_of.entries (map_of.from_entries (map (λ k. (k, h k)) ks))) (each k) (entries-all h ks each))

filter-all : {A : Type 0} (P : A → Type 0) (p : A → Bool) (xs : List A) → AllByRecursion P xs → AllByRecursion P (filter p xs)
filter-all P p [] all = tt
filter-all P p (x ∷ xs) all =
    elim (p x) as (λ b. AllByRecursion P (cond b (x ∷ filter p xs) (filter p xs))) [ true ↦ (all.0, filter-all P p xs all.1) | false ↦ filter-all P p xs all.1 ]

may-count : (bound : Bound) (width : ℕ) (rows : List Numbered) → AllByRecursion (λ r. length r.1 ≡ width) rows → AllByRecursion (λ r. BoundFits r.1 bound) rows
    → AllByRecursion (MayCount bound width) (kept_values bound rows)
may-count bound width [] wide fits = tt
may-count bound width (row ∷ rows) wide fits =
    elim (keeps bound.filter row.1) as (λ b. AllByRecursion (MayCount bound width) (map (λ r. r.1) (cond b (row ∷ filter (λ r. keeps bound.filter r.1) rows) (filter (λ r. keeps bound.filter r.1) rows)))) [
      | true ↦ (record { wide = wide.0; fits = fits.0 }, may-count bound width rows wide.1 fits.1)
      | false ↦ may-count bound width rows wide.1 fits.1
    ]

-- a list of groups in the order of their keys
abbrev pub in_key_order : {X : Type 0} → List (List Value × X) → List (List Value × X)
in_key_order [] = []
in_key_order (e ∷ es) = map_of.put key_order e.0 e.1 (in_key_order es)

entries-in_order : {X : Type 0} (es : List (List Value × X)) → map_of.entries (map_of.from_entries {R = key_order} es) ≡ in_key_order es
entries-in_order {X} [] = no_entries {Z = X}
entries-in_order (e ∷ es) =
    map_of.entries-insert key_total (map_of.from_entries es) e.0 e.1 ∙ ap (map_of.put key_order e.0 e.1) (entries-in_order es)

-- the counts of rows, computed group by group
pub counts-in_order : (bound : Bound) (width : ℕ) (rows : List Numbered)
    → counts bound width rows
    ≡ map (λ g. (g.0, counts_of_rows width g.1))
    (in_key_order (map (λ key. (key, members bound.groups (kept_values bound rows) key)) (keys_of bound.groups (kept_values bound rows))))
counts-in_order bound width rows = ap (map (λ g. (g.0, counts_of_rows width g.1))) (entries-in_order _)

-- ---- the groups of rows

is_there : (b : Bool) (ts : Tallied) → is_some (cond b (Some ts) None) ≡ b
is_there true ts = refl
is_there false ts = refl

-- the entries of the groups of rows are these groups
entries-are : (bound : Bound) (rows : List Numbered) → AreGroupsOf bound rows (map_of.entries (groups_of bound (kept_values bound rows)))
entries-are bound rows = record {
  tallies = entries-all (λ g. g.1 ≡ tallies_of bound vs g.0) (tallies_of bound vs) (keys_of bound.groups vs) (λ k. refl);
  keys = λ q.
      sym (map_of.contains_key-keys (groups_of bound vs) q)
      ∙ (ap is_some (get-groups_of bound vs q)
      ∙ (is_there (stands q (keys_of bound.groups vs)) (tallies_of bound vs q) ∙ sym (among-stands q (keys_of bound.groups vs))));
}
  where
    vs : List (List Value)
    vs = kept_values bound rows

-- what is asked of the counts of rows are the groups of the rows
pub counted-are : (bound : Bound) (rows : List Numbered) (found : List (List Value × Tallied)) → AreCountsOf bound rows found
    → AreGroupsOf bound rows (map (narrowed_group (asked_in (wanted bound))) found)
counted-are bound rows found counted =
    let asked = asked_in (wanted bound) in
    let vs = kept_values bound rows in
    let keys = keys_of bound.groups vs in
    let all = entries-all (λ e. AllByRecursion (MayCount bound counted.width) e.1) (members bound.groups vs) keys
    (λ k. filter-all (MayCount bound counted.width) (λ row. is_key (key_of bound.groups row) k) vs (may-count bound counted.width rows counted.wide counted.fits)) in
    let is : map (narrowed_group asked) found ≡ map_of.entries (groups_of bound vs) =
    ap (map (narrowed_group asked)) counted.are
    ∙ (each-narrowed bound counted.width (map_of.entries (rows_by_key bound.groups vs)) all
    ∙ sym (entries-valued (tallied asked) (members bound.groups vs) keys)) in
    subst (AreGroupsOf bound rows) (sym is) (entries-are bound rows)
