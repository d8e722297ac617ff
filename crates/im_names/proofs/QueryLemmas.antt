-- What a query resolves to is grouped as the query is.
use Rattle.std.proofs.Common.{◌≡◌, ℕ, Bool, true, false, cond, ◌||◌, List, [], ◌∷◌, length, map, Some, None, refl, sym, ap, ◌∙◌}
use Rattle.std.specs.List.{AllByRecursion, list_any, range_with_len}
use Rattle.im_values.specs.declared.schema.Column.{Column}
use Rattle.im_syntax.specs.declared.item.ItemOf.{ItemOf}
use Rattle.im_syntax.specs.declared.item.ItemOf.TheVariants as item
use Rattle.im_syntax.specs.declared.query.KeyPart.{KeyPart}
use Rattle.im_syntax.specs.declared.query.ListPart.{ListPart}
use Rattle.im_syntax.specs.declared.query.ListPart.TheVariants as list
use Rattle.im_syntax.specs.declared.query.Query.{Query}
use Rattle.im_syntax.specs.Functions.{is_aggregate}
use Rattle.im_syntax.specs.BoundQuery.{is_filled, is_listed, IsOfGroup, IsQuery}
use Rattle.im_names.specs.declared.fault.NameFault.TheVariants.{NotGrouped}
use Rattle.im_names.specs.Faults.{first_fault}
use Rattle.im_names.specs.Lookups.{number_of}
use Rattle.im_names.specs.Queries.{items_of, key_item, item_of, key_of, is_grouped, lone_fault, lone_faults, grouped_fault, star_fault, names_fault, kinds_fault, query_fault, list_of, bound_of}
use Rattle.im_names.proofs.FitLemmas.{neither}

filled-map : {A B : Type 0} (f : A → B) (xs : List A) → is_filled xs ≡ is_filled (map f xs)
filled-map f [] = refl
filled-map f (x ∷ xs) = refl

no_aggregate : (numbers : List ℕ) → false ≡ list_any is_aggregate (map item.Column numbers)
no_aggregate [] = refl
no_aggregate (n ∷ numbers) = no_aggregate numbers

module _ (columns : List Column) where
  -- ---- aggregates

  aggregate-of : (i : ItemOf (List ℕ)) → is_aggregate i ≡ is_aggregate (item_of columns i)
  aggregate-of (item.Column name) = refl
  aggregate-of i = refl

  items-aggregate : (is : List (ItemOf (List ℕ))) → list_any is_aggregate is ≡ list_any is_aggregate (map (item_of columns) is)
  items-aggregate [] = refl
  items-aggregate (i ∷ is) = λ j. aggregate-of i j || items-aggregate is j

  list-aggregate : (l : ListPart) → list_any is_aggregate (items_of l) ≡ list_any is_aggregate (list_of columns l)
  list-aggregate list.Star = no_aggregate (range_with_len 0 (length columns))
  list-aggregate (list.Items is) = items-aggregate is

  keys-aggregate : (keys : List KeyPart)
      → list_any is_aggregate (map key_item keys) ≡ list_any is_aggregate (map (λ key. key.item) (map (key_of columns) keys))
  keys-aggregate [] = refl
  keys-aggregate (key ∷ keys) = λ j. aggregate-of key.item j || keys-aggregate keys j

  -- ---- plain columns

  module _ (groups : List (List ℕ)) where
    abbrev numbers : List ℕ
    numbers = map (number_of columns) groups

    listed : (name : List ℕ) (b : Bool) → is_listed numbers (number_of columns name) ≡ b
        → cond b None (Some (NotGrouped (Some name))) ≡ None → is_listed numbers (number_of columns name) ≡ true
    listed name true is e = is
    listed name false is e = absurd cc

    item-grouped : (i : ItemOf (List ℕ)) → lone_fault columns groups i ≡ None → IsOfGroup numbers (item_of columns i)
    item-grouped (item.Column name) e = listed name (is_listed numbers (number_of columns name)) refl e
    item-grouped item.CountAll e = tt
    item-grouped (item.Aggregate function name) e = tt

    items-grouped : (is : List (ItemOf (List ℕ))) → first_fault (map (lone_fault columns groups) is) ≡ None
        → AllByRecursion (IsOfGroup numbers) (map (item_of columns) is)
    items-grouped [] e = tt
    items-grouped (i ∷ is) e = let both = neither (lone_fault columns groups i) _ e in (item-grouped i both.0, items-grouped is both.1)

    list-grouped : (l : ListPart) → star_fault l ≡ None → first_fault (map (lone_fault columns groups) (items_of l)) ≡ None
        → AllByRecursion (IsOfGroup numbers) (list_of columns l)
    list-grouped list.Star star e = absurd cc
    list-grouped (list.Items is) star e = items-grouped is e

    keys-grouped : (keys : List KeyPart) → first_fault (map (lone_fault columns groups) (map key_item keys)) ≡ None
        → AllByRecursion (IsOfGroup numbers) (map (λ key. key.item) (map (key_of columns) keys))
    keys-grouped [] e = tt
    keys-grouped (key ∷ keys) e =
        let both = neither (lone_fault columns groups key.item) _ e in (item-grouped key.item both.0, keys-grouped keys both.1)

  -- ---- the query

  -- nothing is wrong with the list and the keys of a query that is grouped
  lone-free : (q : Query) → query_fault columns q ≡ None → is_grouped q ≡ true → lone_faults columns q ≡ None
  lone-free q e is =
      let checks = neither (names_fault columns q) _ e in
      let kinds = neither (kinds_fault columns q) _ checks.1 in
      let grouping = neither (grouped_fault columns q) _ kinds.1 in
      ap (λ b. cond b (lone_faults columns q) None) (sym is) ∙ grouping.0

  pub is_query : (number : ℕ) (q : Query) → query_fault columns q ≡ None → IsQuery (bound_of number columns q)
  is_query number q e = record {
    grouped = λ j. filled-map (number_of columns) q.groups j || list-aggregate q.list j || keys-aggregate q.keys j;
    items = λ is.
        let star = neither (star_fault q.list) _ (lone-free q e is) in
        list-grouped q.groups q.list star.0 (neither (first_fault (map (lone_fault columns q.groups) (items_of q.list))) _ star.1).0;
    keys = λ is.
        let star = neither (star_fault q.list) _ (lone-free q e is) in
        let lone = neither (first_fault (map (lone_fault columns q.groups) (items_of q.list))) _ star.1 in
        keys-grouped q.groups q.keys (neither (first_fault (map (lone_fault columns q.groups) (map key_item q.keys))) _ lone.1).0;
  }
