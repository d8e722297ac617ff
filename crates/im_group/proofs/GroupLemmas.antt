-- The groups of rows, once one row more has come, and of two lists of rows together.
use Rattle.std.proofs.Common.{◌≡◌, ℕ, Bool, true, false, cond, List, [], ◌∷◌, ◌++◌, map, Option, None, Some, refl, sym, ap, ◌∙◌}
use Rattle.std.specs.Ordering.{is_eq}
use Rattle.std.specs.declared.cmp.Ordering.{Ordering}
use Rattle.std.specs.declared.cmp.Ordering.TheVariants.{Less, Equal, Greater}
use Rattle.std.specs.FinMap as map_of
use Rattle.std.proofs.lemmas.List.Elements.{filter-append}
use Rattle.std.proofs.lemmas.Cmp.{tied_itself}
use Rattle.im_values.specs.declared.content.Content.{Content as Value}
use Rattle.im_syntax.specs.declared.bound.Bound.{Bound}
use Rattle.im_group.specs.Tallies.{Tallied, wanted, asked_in, tallied, row_taken}
use Rattle.im_group.specs.Partials.{key_order, key_of, is_key, members, tallies_of, keys_of, groups_of}
use Rattle.im_group.specs.inner.Steps.{placed}
use Rattle.im_group.proofs.Orders.{key_total, key_same}
use Rattle.im_group.proofs.Growth.{tallied-push}
use Rattle.im_group.proofs.Sorting.{true_is_not_false}

-- ---- one group

members-push : (columns : List ℕ) (rows : List (List Value)) (row key : List Value)
    → members columns (rows ++ row ∷ []) key ≡ members columns rows key ++ cond (is_key (key_of columns row) key) (row ∷ []) []
members-push columns rows row key = filter-append (λ r. is_key (key_of columns r) key) rows (row ∷ [])

-- a group takes a row of its key
pub tallies-push_here : (bound : Bound) (rows : List (List Value)) (row key : List Value) → is_key (key_of bound.groups row) key ≡ true
    → tallies_of bound (rows ++ row ∷ []) key ≡ row_taken (asked_in (wanted bound)) (tallies_of bound rows key) row
tallies-push_here bound rows row key h =
    ap (λ ms. tallied (asked_in (wanted bound)) ms) (members-push bound.groups rows row key
    ∙ ap (λ b. members bound.groups rows key ++ cond b (row ∷ []) []) h)
    ∙ tallied-push (asked_in (wanted bound)) (members bound.groups rows key) row

pub no_more : {A : Type 0} (xs : List A) → xs ++ [] ≡ xs
no_more [] = refl
no_more (x ∷ xs) = ap (λ l. x ∷ l) (no_more xs)

-- and no row of another
pub tallies-push_apart : (bound : Bound) (rows : List (List Value)) (row key : List Value) → is_key (key_of bound.groups row) key ≡ false
    → tallies_of bound (rows ++ row ∷ []) key ≡ tallies_of bound rows key
tallies-push_apart bound rows row key h =
    ap (λ ms. tallied (asked_in (wanted bound)) ms) (members-push bound.groups rows row key
    ∙ (ap (λ b. members bound.groups rows key ++ cond b (row ∷ []) []) h ∙ no_more (members bound.groups rows key)))

-- ---- all groups

-- whether a key is one of some keys
abbrev pub stands : List Value → List (List Value) → Bool
stands q [] = false
stands q (k ∷ ks) = cond (is_eq (key_order q k)) true (stands q ks)

pub equal : (r : Ordering) → is_eq r ≡ true → r ≡ Equal
equal Less h = absurd cc
equal Equal h = refl
equal Greater h = absurd cc

-- the groups that a function of the key gives, at a key
pub find-map : (f : List Value → Tallied) (ks : List (List Value)) (q : List Value)
    → map_of.find key_order q (map (λ k. (k, f k)) ks) ≡ cond (stands q ks) (Some (f q)) None
find-map f [] q = refl
find-map f (k ∷ ks) q = go (is_eq (key_order q k)) refl (find-map f ks q)
  where
    go : (b : Bool) → is_eq (key_order q k) ≡ b → map_of.find key_order q (map (λ k. (k, f k)) ks) ≡ cond (stands q ks) (Some (f q)) None
        → cond b (Some (f k)) (map_of.find key_order q (map (λ k. (k, f k)) ks)) ≡ cond (cond b true (stands q ks)) (Some (f q)) None
    go true e more = ap (λ k. Some (f k)) (sym (key_same q k (equal _ e)))
    go false e more = more

-- what the groups of rows have at a key
pub get-groups_of : (bound : Bound) (rows : List (List Value)) (q : List Value)
    → map_of.get (groups_of bound rows) q ≡ cond (stands q (keys_of bound.groups rows)) (Some (tallies_of bound rows q)) None
get-groups_of bound rows q = map_of.get-from_entries key_total _ q ∙ find-map (tallies_of bound rows) (keys_of bound.groups rows) q

-- ---- one row more

twice : (b : Bool) (v w : Tallied) (r : Option Tallied) → cond b (Some v) r ≡ cond b (Some v) (cond b (Some w) r)
twice true v w r = refl
twice false v w r = refl

exchanged : (a b : Bool) (v w : Tallied) (r : Option Tallied) → (a ≡ true → b ≡ true → ⊥)
    → cond a (Some v) (cond b (Some w) r) ≡ cond b (Some w) (cond a (Some v) r)
exchanged true true v w r apart = absurd (apart refl refl)
exchanged true false v w r apart = refl
exchanged false b v w r apart = refl

pub find-placed : (es : List (List Value × Tallied)) (k : List Value) (v : Tallied) (q : List Value)
    → map_of.find key_order q (placed es k v) ≡ cond (is_eq (key_order q k)) (Some v) (map_of.find key_order q es)
find-placed [] k v q = refl
find-placed (e ∷ es) k v q = go (is_eq (key_order k e.0)) refl (find-placed es k v q)
  where
    go : (b : Bool) → is_eq (key_order k e.0) ≡ b → map_of.find key_order q (placed es k v) ≡ cond (is_eq (key_order q k)) (Some v) (map_of.find key_order q es)
        → map_of.find key_order q (cond b ((e.0, v) ∷ es) (e ∷ placed es k v)) ≡ cond (is_eq (key_order q k)) (Some v) (map_of.find key_order q (e ∷ es))
    go true h more =
        let same = key_same k e.0 (equal _ h) in
        twice (is_eq (key_order q e.0)) v e.1 (map_of.find key_order q es)
        ∙ ap (λ k. cond (is_eq (key_order q k)) (Some v) (map_of.find key_order q (e ∷ es))) (sym same)
    go false h more =
        ap (λ r. cond (is_eq (key_order q e.0)) (Some e.1) r) more
        ∙ exchanged (is_eq (key_order q e.0)) (is_eq (key_order q k)) e.1 v (map_of.find key_order q es)
        (λ a b. let x = key_same q e.0 (equal _ a) in let y = key_same q k (equal _ b) in
        true_is_not_false (sym (ap is_eq (ap (λ z. key_order k z) (sym x ∙ y) ∙ tied_itself key_total k)) ∙ h))
