-- The parts of two lists of rows are, in one, the part of both.
use Rattle.std.proofs.Common.{◌≡◌, ℕ, Bool, true, false, cond, List, [], ◌∷◌, ◌++◌, map, None, Some, refl, sym, ap, ◌∙◌}
use Rattle.std.specs.Ordering.{is_eq}
use Rattle.std.specs.Option.{ForSome}
use Rattle.std.specs.FinMap as map_of
use Rattle.std.proofs.lemmas.List.{map-append}
use Rattle.std.proofs.lemmas.List.Elements.{filter-append}
use Rattle.im_values.specs.declared.content.Content.{Content as Value}
use Rattle.im_syntax.specs.declared.bound.Bound.{Bound}
use Rattle.im_group.specs.Tallies.{Tallied, wanted, asked_in, tallied, all_joined, CanJoin}
use Rattle.im_group.specs.Partials.{Numbered, Parts, key_order, key_of, is_key, keeps, kept, members, tallies_of, keys_of, groups_of, keyed, held, joined_groups, merged, partial, CanMerge}
use Rattle.im_group.specs.inner.Steps.{tallies_at}
use Rattle.im_group.proofs.Orders.{key_total, key_same}
use Rattle.im_group.proofs.Growth.{tallied-append}
use Rattle.im_group.proofs.GroupLemmas.{stands, no_more, get-groups_of}
use Rattle.im_group.proofs.GroupSteps.{flipped, none_has}
use Rattle.im_group.proofs.Merging.{at_both, get-joined_groups}

unsaid : (b : Bool) → cond b true false ≡ false → b ≡ false
unsaid true e = e
unsaid false e = refl

-- no row has a key that does not stand
no_member : (columns : List ℕ) (rows : List (List Value)) (q : List Value) → stands q (keys_of columns rows) ≡ false → members columns rows q ≡ []
no_member [] [] q h = refl
no_member [] (row ∷ rows) q h =
    ap (λ b. cond b (row ∷ members [] rows q) (members [] rows q)) (flipped [] q ∙ unsaid (is_eq (key_order q [])) h) ∙ no_member [] rows q h
no_member (c ∷ cs) rows q h = none_has (c ∷ cs) rows q h

module _ (bound : Bound) where
  pub members-append : (xs ys : List (List Value)) (q : List Value) → members bound.groups (xs ++ ys) q ≡ members bound.groups xs q ++ members bound.groups ys q
  members-append xs ys q = filter-append (λ r. is_key (key_of bound.groups r) q) xs ys

  tallies-append : (xs ys : List (List Value)) (q : List Value) → tallies_of bound (xs ++ ys) q ≡ all_joined (tallies_of bound xs q) (tallies_of bound ys q)
  tallies-append xs ys q =
      ap (λ ms. tallied (asked_in (wanted bound)) ms) (members-append xs ys q)
      ∙ tallied-append (asked_in (wanted bound)) (members bound.groups xs q) (members bound.groups ys q)

stands-both : (ks ls : List (List Value)) (q : List Value) → stands q (ks ++ ls) ≡ cond (stands q ks) true (stands q ls)
stands-both [] ls q = refl
stands-both (k ∷ ks) ls q = ap (cond (is_eq (key_order q k)) true) (stands-both ks ls q) ∙ again (is_eq (key_order q k)) (stands q ks) (stands q ls)
  where
    again : (a b c : Bool) → cond a true (cond b true c) ≡ cond (cond a true b) true c
    again true b c = refl
    again false b c = refl

pub stands-append : (columns : List ℕ) (xs ys : List (List Value)) (q : List Value)
    → stands q (keys_of columns (xs ++ ys)) ≡ cond (stands q (keys_of columns xs)) true (stands q (keys_of columns ys))
stands-append [] xs ys q = twice (is_eq (key_order q []))
  where
    twice : (b : Bool) → cond b true false ≡ cond (cond b true false) true (cond b true false)
    twice true = refl
    twice false = refl
stands-append (c ∷ cs) xs ys q = ap (stands q) (map-append (key_of (c ∷ cs)) xs ys) ∙ stands-both (map (key_of (c ∷ cs)) xs) (map (key_of (c ∷ cs)) ys) q

groups-append : (bound : Bound) (xs ys : List (List Value)) → joined_groups (groups_of bound xs) (groups_of bound ys) ≡ groups_of bound (xs ++ ys)
groups-append bound xs ys = map_of.same_map key_total key_same _ _ (λ q.
    get-joined_groups (groups_of bound xs) (groups_of bound ys) q
    ∙ ((λ i. at_both (get-groups_of bound xs q i) (get-groups_of bound ys q i))
    ∙ (go q (stands q (keys_of bound.groups xs)) (stands q (keys_of bound.groups ys)) refl refl
    ∙ sym (get-groups_of bound (xs ++ ys) q ∙ ap (λ b. cond b (Some (tallies_of bound (xs ++ ys) q)) None) (stands-append bound.groups xs ys q)))))
  where
    go : (q : List Value) (a b : Bool) → stands q (keys_of bound.groups xs) ≡ a → stands q (keys_of bound.groups ys) ≡ b
        → at_both (cond a (Some (tallies_of bound xs q)) None) (cond b (Some (tallies_of bound ys q)) None)
        ≡ cond (cond a true b) (Some (tallies_of bound (xs ++ ys) q)) None
    go q true true e g = ap Some (sym (tallies-append bound xs ys q))
    go q true false e g =
        ap (λ ms. Some (tallied (asked_in (wanted bound)) ms))
        (sym (members-append bound xs ys q ∙ (ap (λ l. members bound.groups xs q ++ l) (no_member bound.groups ys q g) ∙ no_more (members bound.groups xs q))))
    go q false true e g =
        ap (λ ms. Some (tallied (asked_in (wanted bound)) ms))
        (sym (members-append bound xs ys q ∙ ap (λ l. l ++ members bound.groups ys q) (no_member bound.groups xs q e)))
    go q false false e g = refl

pub kept-append : (bound : Bound) (xs ys : List Numbered) → kept bound (xs ++ ys) ≡ kept bound xs ++ kept bound ys
kept-append bound xs ys = filter-append (λ r. keeps bound.filter r.1) xs ys

abbrev pub plain : List Numbered → Parts
plain rows = record { rows = rows; groups = map_of.empty }

abbrev pub grouped : map_of.FinMap key_order Tallied → Parts
grouped groups = record { rows = []; groups = groups }

no_groups : joined_groups map_of.empty map_of.empty ≡ map_of.empty
no_groups = map_of.same_map key_total key_same _ _ (λ q.
    get-joined_groups map_of.empty map_of.empty q
    ∙ ((λ i. at_both (map_of.get-empty {X = Tallied} key_order q i) (map_of.get-empty {X = Tallied} key_order q i))
    ∙ sym (map_of.get-empty {X = Tallied} key_order q)))

pub merged-partial : (bound : Bound) (xs ys : List Numbered) → merged (partial bound xs) (partial bound ys) ≡ partial bound (xs ++ ys)
merged-partial bound xs ys =
    elim bound.grouped as (λ b. merged (cond b (grouped (groups_of bound (map (λ r. r.1) (kept bound xs)))) (plain (kept bound xs)))
    (cond b (grouped (groups_of bound (map (λ r. r.1) (kept bound ys)))) (plain (kept bound ys)))
    ≡ cond b (grouped (groups_of bound (map (λ r. r.1) (kept bound (xs ++ ys))))) (plain (kept bound (xs ++ ys)))) [
      | true ↦ ap grouped (groups-append bound (map (λ r. r.1) (kept bound xs)) (map (λ r. r.1) (kept bound ys))
          ∙ ap (groups_of bound) (sym (ap (map (λ r. r.1)) (kept-append bound xs ys) ∙ map-append (λ r. r.1) (kept bound xs) (kept bound ys))))
      | false ↦ λ i. record { rows = sym (kept-append bound xs ys) i; groups = no_groups i }
    ]

-- what the counts of the parts allow, the counts of the groups as they are held allow
pub can_merge-held : {K : Type 0} (f : K → List Value) (a b : Parts) (es os : List (K × Tallied)) → held f es ≡ a.groups → held f os ≡ b.groups
    → CanMerge a b
    → (key : List Value) → ForSome (tallies_at (keyed f es) key) (λ ts. ForSome (tallies_at (keyed f os) key) (λ us. CanJoin ts us))
can_merge-held f a b es os p q can key ts t us u =
    can key ts (ap (λ m. map_of.get m key) (sym p) ∙ (map_of.get-from_entries key_total (keyed f es) key ∙ t)) us (ap (λ m. map_of.get m key) (sym q)
    ∙ (map_of.get-from_entries key_total (keyed f os) key ∙ u))
