-- Groups that are made without their rows are those of the rows.
use Rattle.std.proofs.Common.{◌≡◌, ℕ, zero, suc, ◌<◌, Bool, true, false, cond, ◌||◌, List, [], ◌∷◌, length, map, fold, get_or, None, Some, Contains, refl, sym, ap, ◌∙◌, arith}
use Rattle.std.proofs.lemmas.Cmp.{tied_itself}
use Rattle.std.specs.Ordering.{is_eq}
use Rattle.std.specs.List.{AllByRecursion}
use Rattle.std.specs.FinMap as map_of
use Rattle.im_values.specs.declared.content.Content.{Content as Value}
use Rattle.im_syntax.specs.declared.bound.Bound.{Bound}
use Rattle.im_group.specs.Tallies.{Tallied}
use Rattle.im_group.specs.Partials.{Numbered, Groups, Parts, key_order, kept, keys_of, tallies_of, groups_of, partial}
use Rattle.im_group.specs.MadeGroups.{AreGroupsOf, is_among, kept_values}
use Rattle.im_group.specs.inner.Steps.{tallies_at, placed, all_placed}
use Rattle.im_group.proofs.Orders.{key_total, key_same}
use Rattle.im_group.proofs.GroupLemmas.{stands, equal, find-placed, get-groups_of}
use Rattle.im_group.proofs.Sorting.{true_is_not_false}

abbrev keys_in : List (List Value × Tallied) → List (List Value)
keys_in gs = map (λ g. g.0) gs

pub among-stands : (q : List Value) (ks : List (List Value)) → is_among q ks ≡ stands q ks
among-stands q [] = refl
among-stands q (k ∷ ks) = go (is_eq (key_order q k)) (among-stands q ks)
  where
    go : (b : Bool) → is_among q ks ≡ stands q ks → (b || is_among q ks) ≡ cond b true (stands q ks)
    go true more = refl
    go false more = more

-- groups whose tallies are given by their keys, put one after the other
find-all_placed : (f : List Value → Tallied) (put gs : List (List Value × Tallied)) (q : List Value) → AllByRecursion (λ g. g.1 ≡ f g.0) gs
    → tallies_at (fold (λ put g. placed put g.0 g.1) put gs) q ≡ cond (stands q (keys_in gs)) (Some (f q)) (tallies_at put q)
find-all_placed f put [] q all = refl
find-all_placed f put (g ∷ gs) q all =
    find-all_placed f (placed put g.0 g.1) gs q all.1
    ∙ (ap (cond (stands q (keys_in gs)) (Some (f q))) (find-placed put g.0 g.1 q)
    ∙ go (is_eq (key_order q g.0)) refl (stands q (keys_in gs)))
  where
    go : (b : Bool) → is_eq (key_order q g.0) ≡ b → (later : Bool)
        → cond later (Some (f q)) (cond b (Some g.1) (tallies_at put q)) ≡ cond (cond b true later) (Some (f q)) (tallies_at put q)
    go true e true = refl
    go true e false = ap Some (all.0 ∙ ap f (sym (key_same q g.0 (equal _ e))))
    go false e later = refl

made-are : (bound : Bound) (rows : List Numbered) (gs : List (List Value × Tallied)) → AreGroupsOf bound rows gs
    → map_of.from_entries (all_placed gs) ≡ groups_of bound (kept_values bound rows)
made-are bound rows gs are = map_of.same_map key_total key_same _ _ (λ q.
    map_of.get-from_entries key_total (all_placed gs) q
    ∙ (find-all_placed (tallies_of bound (kept_values bound rows)) [] gs q are.tallies
    ∙ (ap (λ b. cond b (Some (tallies_of bound (kept_values bound rows) q)) None)
    (sym (among-stands q (keys_in gs)) ∙ (are.keys q ∙ among-stands q (keys_of bound.groups (kept_values bound rows))))
    ∙ sym (get-groups_of bound (kept_values bound rows) q))))

-- the part of these kept rows, by whether the query is grouped
abbrev part_of : Bool → Bound → List Numbered → Parts
part_of b bound found = cond b (record { rows = []; groups = groups_of bound (map (λ r. r.1) found) }) (record { rows = found; groups = map_of.empty })

pub made-partial : (bound : Bound) (rows : List Numbered) (gs : List (List Value × Tallied)) (groups : Groups) → bound.grouped ≡ true
    → groups ≡ map_of.from_entries (all_placed gs) → AreGroupsOf bound rows gs
    → ◌≡◌ {A = Parts} (record { rows = []; groups = groups }) (partial bound rows)
made-partial bound rows gs groups grouped is are =
    let part : Groups → Parts = λ g. record { rows = []; groups = g } in
    ap part (is ∙ made-are bound rows gs are) ∙ sym (ap (λ b. part_of b bound (kept bound rows)) grouped)

-- ---- the keys of groups, both ways

at_itself : (k x : List Value) → x ≡ k → is_eq (key_order k x) ≡ true
at_itself k x e = ap (λ y. is_eq (key_order k y)) e ∙ ap is_eq (tied_itself key_total k)

stands-at : (ks : List (List Value)) (i : ℕ) (k : List Value) → i < length ks → get_or ks i k ≡ k → stands k ks ≡ true
stands-at [] i k within is = absurd (omega (arith, within))
stands-at (x ∷ ks) zero k within is = ap (λ b. cond b true (stands k ks)) (at_itself k x is)
stands-at (x ∷ ks) (suc i) k within is =
    elim (is_eq (key_order k x)) as (λ b. cond b true (stands k ks) ≡ true) [ true ↦ refl | false ↦ stands-at ks i k (omega (arith, within)) is ]

stands-in : (ks ls : List (List Value)) → AllByRecursion (Contains ls) ks → (q : List Value) → stands q ks ≡ true → stands q ls ≡ true
stands-in [] ls all q here = absurd (true_is_not_false (sym here))
stands-in (k ∷ ks) ls all q here = go (is_eq (key_order q k)) refl here (stands-in ks ls all.1 q)
  where
    go : (b : Bool) → is_eq (key_order q k) ≡ b → cond b true (stands q ks) ≡ true → (stands q ks ≡ true → stands q ls ≡ true) → stands q ls ≡ true
    go true e here more =
        ap (λ p. stands p ls) (key_same q k (equal _ e)) ∙ stands-at ls (all.0).0 k (all.0).1 (all.0).2
    go false e here more = more here

same_truth : (a b : Bool) → (a ≡ true → b ≡ true) → (b ≡ true → a ≡ true) → a ≡ b
same_truth true b there back = sym (there refl)
same_truth false true there back = back refl
same_truth false false there back = refl

-- keys that are all among others, and those among these, are the same keys
pub same-keys : (ks ls : List (List Value)) → AllByRecursion (Contains ls) ks → AllByRecursion (Contains ks) ls
    → (q : List Value) → is_among q ks ≡ is_among q ls
same-keys ks ls there back q =
    among-stands q ks
    ∙ (same_truth (stands q ks) (stands q ls) (stands-in ks ls there q) (stands-in ls ks back q) ∙ sym (among-stands q ls))
