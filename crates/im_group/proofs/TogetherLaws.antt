-- Rows that the one group of a query without GROUP BY takes together.
use Rattle.std.proofs.Common.{◌≡◌, ℕ, ◌+◌, ◌<◌, ◌^◌, Bool, true, false, cond, List, [], ◌∷◌, ◌++◌, length, map, Option, Some, None, refl, sym, ap, subst, ◌∙◌}
use Rattle.std.specs.Ordering.{is_eq}
use Rattle.std.specs.Option.{ForSome}
use Rattle.std.specs.FinMap as map_of
use Rattle.std.proofs.lemmas.Cmp.{tied_itself}
use Rattle.im_values.specs.declared.content.Content.{Content as Value}
use Rattle.im_syntax.specs.declared.bound.Bound.{Bound}
use Rattle.im_group.specs.Sums.{SumsOf}
use Rattle.im_group.specs.Tallies.{Tallied, asked_in, tallied, wanted, all_joined, CanJoin}
use Rattle.im_group.specs.MadeGroups.{AreGroupsOf, ComeTo, HasRoomTogether, is_among, kept_values, with_sums}
use Rattle.im_group.specs.Partials.{Groups, Numbered, Parts, key_order, is_key, kept, keyed, keys_of, held, joined_groups, members, merged, partial, tallies_of, with_tallies}
use Rattle.im_group.specs.inner.Steps.{tallies_at, placed, stands_at, GroupsAre}
use Rattle.im_group.specs.inner.Holding.{with_group}
use Rattle.im_group.proofs.Orders.{key_total, key_same}
use Rattle.im_group.proofs.GroupLemmas.{equal, find-placed, get-groups_of, stands}
use Rattle.im_group.proofs.GroupSteps.{flipped}
use Rattle.im_group.proofs.MadeLaws.{made-partial}
use Rattle.im_group.proofs.Merging.{at_both, get-joined_groups}
use Rattle.im_group.proofs.Parts.{merged-partial}
use Rattle.im_group.proofs.TakingLaws.{groups-are}
use Rattle.im_group.proofs.ForCallers.{CanMerge-partial}

-- one group under the empty key
abbrev one : Tallied → List (List Value × Tallied)
one ts = ([], ts) ∷ []

abbrev parts_of : List Numbered → Groups → Parts
parts_of rows groups = record { rows = rows; groups = groups }

-- all rows are members of the group of the empty key
all-members : (rows : List (List Value)) → members [] rows [] ≡ rows
all-members [] = refl
all-members (row ∷ rows) = ap (λ (l : List (List Value)). row ∷ l) (all-members rows)

-- what all kept rows come to is their one group
one-group : (bound : Bound) (rows : List Numbered) (n : ℕ) (found : List SumsOf) → bound.groups ≡ [] → ComeTo bound rows n found
    → AreGroupsOf bound rows (one (with_sums n found))
one-group bound rows n found whole is = record {
  tallies = (
    is
        ∙ sym (ap (λ cs. tallied (asked_in (wanted bound)) (members cs (kept_values bound rows) [])) whole
        ∙ ap (tallied (asked_in (wanted bound))) (all-members (kept_values bound rows))),
    tt,
  );
  keys = λ key. ap (λ cs. is_among key (keys_of cs (kept_values bound rows))) (sym whole);
}

-- so their part has this group alone
pub part-together : (bound : Bound) (rows : List Numbered) (n : ℕ) (found : List SumsOf) → bound.grouped ≡ true → bound.groups ≡ []
    → ComeTo bound rows n found → parts_of [] (map_of.from_entries (one (with_sums n found))) ≡ partial bound rows
part-together bound rows n found grouped whole is =
    made-partial bound rows (one (with_sums n found)) _ grouped refl (one-group bound rows n found whole is)

-- the first group that is held is that of the empty key
first-of : (ks : List (List Value)) (v : List Value → Tallied) (gs : List (List Value × Tallied)) → ks ≡ [] ∷ []
    → ((q : List Value) → tallies_at gs q ≡ cond (stands q ks) (Some (v q)) None) → stands_at gs [] 0 ≡ true
first-of ks v [] whole at =
    let none : ◌≡◌ {A = Option Tallied} None (Some (v [])) = at [] ∙ ap (λ l. cond (stands [] l) (Some (v [])) None) whole in
    absurd cc
first-of ks v (g ∷ gs) whole at = go (is_eq (key_order g.0 [])) refl
  where
    here : Some g.1 ≡ cond (cond (is_eq (key_order g.0 [])) true false) (Some (v g.0)) None
    here =
        sym (ap (λ o. cond (is_eq o) (Some g.1) (tallies_at gs g.0)) (tied_itself key_total g.0))
        ∙ (at g.0 ∙ ap (λ l. cond (stands g.0 l) (Some (v g.0)) None) whole)

    go : (b : Bool) → is_eq (key_order g.0 []) ≡ b → is_key [] g.0 ≡ true
    go true e = flipped [] g.0 ∙ e
    go false e =
        let none : Some g.1 ≡ None = here ∙ ap (λ b. cond (cond b true false) (Some (v g.0)) None) e in
        absurd cc

-- what the one group has with what others come to is what it has in the parts of both
joins-one : (gs : List (List Value × Tallied)) (old ts : Tallied) → tallies_at gs [] ≡ Some old
    → map_of.from_entries (placed gs [] (all_joined old ts)) ≡ joined_groups (map_of.from_entries gs) (map_of.from_entries (one ts))
joins-one gs old ts here = map_of.same_map key_total key_same _ _ (λ q.
    map_of.get-from_entries key_total (placed gs [] (all_joined old ts)) q
    ∙ (find-placed gs [] (all_joined old ts) q
    ∙ (go q (is_eq (key_order q [])) refl
    ∙ sym (get-joined_groups (map_of.from_entries gs) (map_of.from_entries (one ts)) q
    ∙ (λ i. at_both (map_of.get-from_entries key_total gs q i) (map_of.get-from_entries key_total (one ts) q i))))))
  where
    go : (q : List Value) (b : Bool) → is_eq (key_order q []) ≡ b
        → cond b (Some (all_joined old ts)) (tallies_at gs q) ≡ at_both (tallies_at gs q) (cond b (Some ts) None)
    go q true e = sym (ap (λ o. at_both o (Some ts)) (ap (tallies_at gs) (key_same q [] (equal _ e)) ∙ here))
    go q false e = refl

module _ {K : Type 0} (f : K → List Value) (bound : Bound) (part : Parts) (es : List (K × Tallied)) (of : held f es ≡ part.groups)
    (grouped : bound.grouped ≡ true) (whole : bound.groups ≡ []) where
  at-key : (front : List Numbered) → part ≡ partial bound front → (q : List Value)
      → tallies_at (keyed f es) q ≡ cond (stands q (keys_of bound.groups (kept_values bound front))) (Some (tallies_of bound (kept_values bound front) q)) None
  at-key front is q = (groups-are f bound part es of grouped front is).at q ∙ get-groups_of bound (kept_values bound front) q

  pub first-stands : (front : List Numbered) → part ≡ partial bound front → stands_at (keyed f es) [] 0 ≡ true
  first-stands front is =
      first-of (keys_of bound.groups (kept_values bound front)) (tallies_of bound (kept_values bound front)) (keyed f es)
      (ap (λ cs. keys_of cs (kept_values bound front)) whole) (at-key front is)

  -- it can take what others come to
  pub can_join-first : (n : ℕ) (found : List SumsOf) → HasRoomTogether bound part n found
      → ForSome (tallies_at (keyed f es) []) (λ old. CanJoin old (with_sums n found))
  can_join-first n found room old here =
      CanMerge-partial bound room.front room.back room.few [] old
      (ap (λ (p : Parts). map_of.get p.groups []) (sym room.is) ∙ (ap (λ m. map_of.get m []) (sym of)
      ∙ (map_of.get-from_entries key_total (keyed f es) [] ∙ here)))
      (with_sums n found)
      (ap (λ (p : Parts). map_of.get p.groups []) (sym (part-together bound room.back n found grouped whole room.these))
      ∙ map_of.get-from_entries key_total (one (with_sums n found)) [])

  -- and has then taken the rows of both
  pub goes-together : (n : ℕ) (found : List SumsOf) (new : Groups)
      → new ≡ map_of.from_entries (with_group (keyed f es) [] (with_sums n found))
      → (front back : List Numbered) → part ≡ partial bound front → ComeTo bound back n found
      → parts_of part.rows new ≡ partial bound (front ++ back)
  goes-together n found new taken front back is these =
      let ts = with_sums n found in
      let old = tallies_of bound (kept_values bound front) [] in
      let here : tallies_at (keyed f es) [] ≡ Some old =
      at-key front is [] ∙ ap (λ cs. cond (stands [] (keys_of cs (kept_values bound front))) (Some old) None) whole in
      let both = taken ∙ (ap (λ o. map_of.from_entries (placed (keyed f es) [] (with_tallies o ts))) here
      ∙ (joins-one (keyed f es) old ts here ∙ ap (λ m. joined_groups m (map_of.from_entries (one ts))) of)) in
      (λ i. parts_of (sym (none-more part.rows) i) (both i))
      ∙ ((λ i. merged (is i) (part-together bound back n found grouped whole these i)) ∙ merged-partial bound front back)
    where
      none-more : {X : Type 0} (xs : List X) → xs ++ [] ≡ xs
      none-more [] = refl
      none-more (x ∷ xs) = ap (λ l. x ∷ l) (none-more xs)
