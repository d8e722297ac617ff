-- The groups of rows, row by row.
use Rattle.std.proofs.Common.{◌≡◌, ℕ, zero, suc, ◌+◌, ◌<◌, ◌≤◌, ◌^◌, Bool, true, false, cond, List, [], ◌∷◌, ◌++◌, length, take, map, get_or, None, Some, refl, sym, ap, ◌∙◌, subst, arith}
use Rattle.std.specs.Ordering.{is_eq}
use Rattle.std.specs.List.{AllByRecursion}
use Rattle.std.specs.FinMap as map_of
use Rattle.std.proofs.lemmas.List.{map-append, take_more, length-map}
use Rattle.std.proofs.lemmas.List.Elements.{filter-append}
use Rattle.std.proofs.lemmas.Cmp.{tied_itself, eq_by_cmp_equiv}
use denote.Ref.{Bor}
use Rattle.im_values.specs.declared.content.Content.{Content as Value}
use Rattle.im_syntax.specs.declared.bound.Bound.{Bound}
use Rattle.im_syntax.specs.BoundFits.{BoundFits}
use Rattle.im_group.specs.declared.asked.Asked.{Asked}
use Rattle.im_group.specs.Tallies.{Tallied, wanted, asked_in, tallied, row_taken, HasRoom}
use Rattle.im_group.specs.Partials.{Numbered, lent_rows, key_order, key_of, is_key, keeps, kept, members, tallies_of, keys_of, groups_of}
use Rattle.im_group.specs.inner.Steps.{tallies_at, so_far, first_groups, GroupsAre}
use Rattle.im_group.specs.inner.Holding.{with_taken}
use Rattle.im_group.proofs.Few.{all_few, shorter}
use Rattle.im_group.proofs.Sorting.{true_is_not_false}
use Rattle.im_group.proofs.Orders.{key_total, key_same}
use Rattle.im_group.proofs.GroupLemmas.{stands, equal, no_more, find-placed, get-groups_of, tallies-push_here, tallies-push_apart}

-- whether a key stands among keys, once there is one more
stands-push : (ks : List (List Value)) (k q : List Value) → stands q (ks ++ k ∷ []) ≡ cond (is_eq (key_order q k)) true (stands q ks)
stands-push [] k q = refl
stands-push (x ∷ ks) k q = either (is_eq (key_order q x)) (is_eq (key_order q k)) (stands q (ks ++ k ∷ [])) (stands q ks) (stands-push ks k q)
  where
    either : (a b c d : Bool) → c ≡ cond b true d → cond a true c ≡ cond b true (cond a true d)
    either true true c d e = refl
    either true false c d e = refl
    either false b c d e = e

-- the key of a row that came stands
stands-keys : (columns : List ℕ) (rows : List (List Value)) (row q : List Value)
    → stands q (keys_of columns (rows ++ row ∷ [])) ≡ cond (is_eq (key_order q (key_of columns row))) true (stands q (keys_of columns rows))
stands-keys [] rows row q = again (is_eq (key_order q []))
  where
    again : (b : Bool) → cond b true false ≡ cond b true (cond b true false)
    again true = refl
    again false = refl
stands-keys (c ∷ cs) rows row q =
    ap (stands q) (map-append (key_of (c ∷ cs)) rows (row ∷ [])) ∙ stands-push (map (key_of (c ∷ cs)) rows) (key_of (c ∷ cs) row) q

pub flipped : (a b : List Value) → is_key a b ≡ is_key b a
flipped a b = (eq_by_cmp_equiv key_total).symm a b

-- no row has a key that does not stand
pub none_has : (columns : List ℕ) (rows : List (List Value)) (q : List Value) → stands q (map (key_of columns) rows) ≡ false → members columns rows q ≡ []
none_has columns [] q h = refl
none_has columns (row ∷ rows) q h = go (is_key q (key_of columns row)) refl h (none_has columns rows q)
  where
    go : (b : Bool) → is_key q (key_of columns row) ≡ b → cond b true (stands q (map (key_of columns) rows)) ≡ false
        → (stands q (map (key_of columns) rows) ≡ false → members columns rows q ≡ []) → members columns (row ∷ rows) q ≡ []
    go true e h more = absurd (true_is_not_false h)
    go false e h more = ap (λ b. cond b (row ∷ members columns rows q) (members columns rows q)) (flipped (key_of columns row) q ∙ e) ∙ more h

-- nor has one the key of a row that came, where that does not stand
none_has_it : (columns : List ℕ) (rows : List (List Value)) (row : List Value) → stands (key_of columns row) (keys_of columns rows) ≡ false
    → members columns rows (key_of columns row) ≡ []
none_has_it [] rows row h = absurd (true_is_not_false h)
none_has_it (c ∷ cs) rows row h = none_has (c ∷ cs) rows (key_of (c ∷ cs) row) h

-- what a group has taken so far, by the rows
pub so_far_is : (bound : Bound) (rows : List (List Value)) (groups : List (List Value × Tallied)) (row : List Value) → GroupsAre bound rows groups
    → so_far (asked_in (wanted bound)) (tallies_at groups (key_of bound.groups row)) ≡ tallies_of bound rows (key_of bound.groups row)
so_far_is bound rows groups row g =
    ap (so_far (asked_in (wanted bound))) (g.at (key_of bound.groups row) ∙ get-groups_of bound rows (key_of bound.groups row))
    ∙ go (stands (key_of bound.groups row) (keys_of bound.groups rows)) refl
  where
    go : (b : Bool) → stands (key_of bound.groups row) (keys_of bound.groups rows) ≡ b
        → so_far (asked_in (wanted bound)) (cond b (Some (tallies_of bound rows (key_of bound.groups row))) None) ≡ tallies_of bound rows (key_of bound.groups row)
    go true e = refl
    go false e = ap (λ ms. tallied (asked_in (wanted bound)) ms) (sym (none_has_it bound.groups rows row e))

pub few_so_far : (bound : Bound) (rows : List (List Value)) (groups : List (List Value × Tallied)) (row : List Value) → GroupsAre bound rows groups
    → length rows + 1 < 2 ^ 64
    → HasRoom (so_far (asked_in (wanted bound)) (tallies_at groups (key_of bound.groups row)))
few_so_far bound rows groups row g few =
    subst HasRoom (sym (so_far_is bound rows groups row g))
    (all_few (asked_in (wanted bound)) (members bound.groups rows (key_of bound.groups row))
    (omega (arith, shorter (λ r. is_key (key_of bound.groups r) (key_of bound.groups row)) rows)))

-- one row more
pub groups-push : (bound : Bound) (rows : List (List Value)) (groups : List (List Value × Tallied)) (row : List Value) → GroupsAre bound rows groups
    → GroupsAre bound (rows ++ row ∷ []) (with_taken (asked_in (wanted bound)) groups (key_of bound.groups row) row)
groups-push bound rows groups row g = record {
  at = λ q.
      find-placed groups (key_of bound.groups row) (row_taken (asked_in (wanted bound)) (so_far (asked_in (wanted bound)) (tallies_at groups (key_of bound.groups row))) row) q
      ∙ (go q (is_eq (key_order q (key_of bound.groups row))) refl
      ∙ sym (get-groups_of bound (rows ++ row ∷ []) q
      ∙ ap (λ b. cond b (Some (tallies_of bound (rows ++ row ∷ []) q)) None) (stands-keys bound.groups rows row q)));
}
  where
    go : (q : List Value) (b : Bool) → is_eq (key_order q (key_of bound.groups row)) ≡ b
        → cond b (Some (row_taken (asked_in (wanted bound)) (so_far (asked_in (wanted bound)) (tallies_at groups (key_of bound.groups row))) row)) (tallies_at groups q)
        ≡ cond (cond b true (stands q (keys_of bound.groups rows))) (Some (tallies_of bound (rows ++ row ∷ []) q)) None
    go q true e =
        let same = key_same q (key_of bound.groups row) (equal _ e) in
        ap Some (ap (λ ts. row_taken (asked_in (wanted bound)) ts row) (so_far_is bound rows groups row g)
        ∙ (sym (tallies-push_here bound rows row (key_of bound.groups row) (ap is_eq (tied_itself key_total (key_of bound.groups row))))
        ∙ ap (tallies_of bound (rows ++ row ∷ [])) (sym same)))
    go q false e =
        g.at q ∙ (get-groups_of bound rows q
        ∙ ap (λ ts. cond (stands q (keys_of bound.groups rows)) (Some ts) None)
        (sym (tallies-push_apart bound rows row q (flipped (key_of bound.groups row) q ∙ e))))

-- no row
first-at : (columns : List ℕ) (qs : List Asked) (q : List Value)
    → tallies_at (first_groups columns qs) q ≡ cond (stands q (keys_of columns [])) (Some (tallied qs [])) None
first-at [] qs q =
    elim (is_eq (key_order q [])) as
    (λ b. cond b (Some (tallied qs [])) None ≡ cond (cond b true false) (Some (tallied qs [])) None) [ true ↦ refl | false ↦ refl ]
first-at (c ∷ cs) qs q = refl

pub first-are : (bound : Bound) → GroupsAre bound [] (first_groups bound.groups (asked_in (wanted bound)))
first-are bound = record { at = λ q. first-at bound.groups (asked_in (wanted bound)) q ∙ sym (get-groups_of bound [] q) }

-- a row that is kept is one kept row more
pub kept-push : (bound : Bound) (rows : List Numbered) (row : Numbered) → keeps bound.filter row.1 ≡ true → kept bound (rows ++ row ∷ []) ≡ kept bound rows ++ row ∷ []
kept-push bound rows row is =
    filter-append (λ r. keeps bound.filter r.1) rows (row ∷ []) ∙ ap (λ b. kept bound rows ++ cond b (row ∷ []) []) is

-- and its values stand behind the others
pub values-push : (bound : Bound) (rows : List Numbered) (row : Numbered) → keeps bound.filter row.1 ≡ true
    → map (λ r. r.1) (kept bound (rows ++ row ∷ [])) ≡ map (λ r. r.1) (kept bound rows) ++ row.1 ∷ []
values-push bound rows row is = ap (map (λ r. r.1)) (kept-push bound rows row is) ∙ map-append (λ r. r.1) (kept bound rows) (row ∷ [])

-- a row that is not kept is no kept row more
pub kept-pass : (bound : Bound) (rows : List Numbered) (row : Numbered) → keeps bound.filter row.1 ≡ false → kept bound (rows ++ row ∷ []) ≡ kept bound rows
kept-pass bound rows row is =
    filter-append (λ r. keeps bound.filter r.1) rows (row ∷ [])
    ∙ (ap (λ b. kept bound rows ++ cond b (row ∷ []) []) is ∙ no_more (kept bound rows))

-- of so many rows no more are kept
pub few_kept : (bound : Bound) (rows : List Numbered) → length (map (λ r. r.1) (kept bound rows)) ≤ length rows
few_kept bound rows = let same = length-map (kept bound rows) (λ r. r.1) in let less = shorter (λ r. keeps bound.filter r.1) rows in omega arith

-- a query may be asked of rows that are lent
pub lent-fits : (bound : Bound) (rows : List (ℕ × Bor (List Value))) → AllByRecursion (λ r. BoundFits r.1 bound) (lent_rows rows)
    → AllByRecursion (λ r. BoundFits r.1.now bound) rows
lent-fits bound [] all = tt
lent-fits bound (row ∷ rows) all = (all.0, lent-fits bound rows all.1)

pub fits-at : (bound : Bound) (rows : List (ℕ × Bor (List Value))) (i : ℕ) (d : ℕ × Bor (List Value)) → i < length rows → d ≡ get_or rows i d
    → AllByRecursion (λ r. BoundFits r.1.now bound) rows → BoundFits d.1.now bound
fits-at bound [] i d within is all = absurd (omega (arith, within))
fits-at bound (row ∷ rows) zero d within is all = subst (λ (r : ℕ × Bor (List Value)). BoundFits r.1.now bound) (sym is) all.0
fits-at bound (row ∷ rows) (suc i) d within is all = fits-at bound rows i d (omega (arith, within)) is all.1

-- one lent row more
pub lent-push : (rows : List (ℕ × Bor (List Value))) (i : ℕ) (d : ℕ × Bor (List Value)) → i < length rows
    → lent_rows (take (i + 1) rows) ≡ lent_rows (take i rows) ++ ((get_or rows i d).0, (get_or rows i d).1.now) ∷ []
lent-push rows i d lt = ap lent_rows (take_more rows i d lt) ∙ map-append (λ row. (row.0, row.1.now)) (take i rows) (get_or rows i d ∷ [])

short_take : {A : Type 0} (i : ℕ) (xs : List A) → length (take i xs) ≤ i
short_take zero xs = omega arith
short_take (suc i) [] = omega arith
short_take (suc i) (x ∷ xs) = omega (arith, short_take i xs)

pub few_lent : (rows : List (ℕ × Bor (List Value))) (i : ℕ) → length (lent_rows (take i rows)) ≤ i
few_lent rows i = let same : length (lent_rows (take i rows)) ≡ length (take i rows) = length-map (take i rows) (λ row. (row.0, row.1.now)) in let less = short_take i rows in omega arith

-- groups that are those of the rows, as a map
pub held_are : (bound : Bound) (rows : List (List Value)) (groups : List (List Value × Tallied)) → GroupsAre bound rows groups
    → map_of.from_entries groups ≡ groups_of bound rows
held_are bound rows groups g = map_of.same_map key_total key_same _ _ (λ q. map_of.get-from_entries key_total groups q ∙ g.at q)
