-- What has no fault fits the rows of its table.
use Rattle.std.proofs.Common.{◌≡◌, ℕ, zero, suc, ◌+◌, ◌<◌, ◌≤◌, Bool, true, false, cond, ◌&&◌, List, [], ◌∷◌, ◌++◌, length, map, Option, Some, None, IsTrue, refl, sym, ap, ◌∙◌, arith}
use Rattle.std.specs.List.{AllByRecursion, position_from, range_with_len, flat_map}
use Rattle.std.specs.Option.{option_or, unwrap_or, is_some, ForSome}
use Rattle.std.proofs.lemmas.List.{map-append}
use Rattle.im_values.specs.declared.schema.Column.{Column}
use Rattle.im_values.specs.declared.schema.Kind.{Kind}
use Rattle.im_values.specs.declared.schema.Kind.TheVariants as kind
use Rattle.im_values.specs.declared.content.Content.{Content as Value}
use Rattle.im_values.specs.declared.content.Content.TheVariants as value
use Rattle.im_values.specs.Fits.{may_stand, fits}
use Rattle.im_syntax.specs.declared.literal.Lit.{Lit}
use Rattle.im_syntax.specs.Condition.{TermOf, negation, nested, comparison, null_test, between, within, ConjOf, no_term, and_term, CondOf, no_conj, or_conj}
use Rattle.im_syntax.specs.BoundFits.{value_at, agree, is_text, HasColumn, Meets, TestFits, TestsFit, FilterFits, ItemFits, KeyFits, BoundFits}
use Rattle.im_names.specs.declared.fault.NameFault.{NameFault}
use Rattle.im_names.specs.declared.fault.NameFault.TheVariants.{UnknownColumn, WrongKind}
use Rattle.im_names.specs.Faults.{first_fault}
use Rattle.im_names.specs.Lookups.{is_called, column_called, number_of, of_column, unknown, unknown_fault}
use Rattle.im_names.specs.Literals.{value_of, is_other, compared, is_textual, summed}
use Rattle.im_names.specs.Conditions.{behind, term_names, conj_names, cond_names, term_values, conj_values, cond_values, term_map, conj_map, cond_map, value_fault, values_fault, where_names, where_values, filter_of}
use Rattle.im_syntax.specs.declared.item.ItemOf.{ItemOf}
use Rattle.im_syntax.specs.declared.item.ItemOf.TheVariants as item
use Rattle.im_syntax.specs.declared.query.KeyPart.{KeyPart}
use Rattle.im_syntax.specs.declared.query.ListPart.{ListPart}
use Rattle.im_syntax.specs.declared.query.ListPart.TheVariants as list
use Rattle.im_syntax.specs.declared.query.Query.{Query}
use Rattle.im_names.specs.Queries.{items_of, key_item, item_names, item_of, key_of, item_fault, list_of, bound_of, names_fault, kinds_fault, query_fault}
use Rattle.im_names.proofs.FaultLemmas.{first_fault-append}

-- ---- no fault of several is no fault of each

pub neither : (f g : Option NameFault) → option_or f g ≡ None → (f ≡ None) × (g ≡ None)
neither None g e = (refl, e)
neither (Some x) g e = absurd cc

pub none_of_both : {A : Type 0} (f : A → Option NameFault) (xs ys : List A) → first_fault (map f (xs ++ ys)) ≡ None
    → (first_fault (map f xs) ≡ None) × (first_fault (map f ys) ≡ None)
none_of_both f xs ys e = neither _ _ (sym (first_fault-append (map f xs) (map f ys)) ∙ sym (ap first_fault (map-append f xs ys)) ∙ e)

-- ---- columns

within_step : (b : Bool) (i k n : ℕ) (rest : Option ℕ) → i < n → (rest ≡ Some k → k < n) → cond b (Some i) rest ≡ Some k → k < n
within_step true i k n rest lt later p = let same : i ≡ k = cc in omega arith
within_step false i k n rest lt later p = later p

-- a place that is found is one of the list
found_within : {A : Type 0} (t : A → Bool) (i n : ℕ) (xs : List A) (k : ℕ) → i + length xs ≡ n → position_from t i xs ≡ Some k → k < n
found_within t i n [] k e p = absurd cc
found_within t i n (x ∷ xs) k e p = within_step (t x) i k n (position_from t (i + 1) xs) (omega arith) (found_within t (i + 1) n xs k (omega arith)) p

known_at : (columns : List Column) (name : List ℕ) (o : Option ℕ) → column_called columns name ≡ o
    → cond (is_some o) None (Some (UnknownColumn name)) ≡ None → unwrap_or o 0 < length columns
known_at columns name None is e = absurd cc
known_at columns name (Some k) is e = found_within (is_called name) 0 (length columns) columns k (omega arith) is

-- a name that the table has stands for one of its columns
pub known_within : (columns : List Column) (name : List ℕ) → unknown columns name ≡ None → number_of columns name < length columns
known_within columns name e = known_at columns name (column_called columns name) refl e

-- ---- rows that fit

both_true : (a b : Bool) → (a && b) ≡ true → (a ≡ true) × (b ≡ true)
both_true true b e = (refl, e)
both_true false b e = absurd cc

pub fits_length : (row : List Value) (columns : List Column) → fits row columns ≡ true → length row ≡ length columns
fits_length [] [] e = refl
fits_length [] (c ∷ cs) e = absurd cc
fits_length (v ∷ vs) [] e = absurd cc
fits_length (v ∷ vs) (c ∷ cs) e = ap suc (fits_length vs cs (both_true (may_stand c.kind v) (fits vs cs) e).1)

-- a value that stands in a column may be compared with one that has no fault there
agrees : (k : Kind) (name : List ℕ) (mine v : Value) → may_stand k mine ≡ true → cond (is_other k v) (Some (WrongKind name)) None ≡ None → IsTrue (agree mine v)
agrees kind.Int name (value.Int a) (value.Int b) s e = refl
agrees kind.Int name (value.Int a) (value.Text b) s e = absurd cc
agrees kind.Int name (value.Int a) value.Null s e = refl
agrees kind.Int name (value.Text a) v s e = absurd cc
agrees kind.Int name value.Null v s e = refl
agrees (kind.Text n) name (value.Int a) v s e = absurd cc
agrees (kind.Text n) name (value.Text a) (value.Int b) s e = absurd cc
agrees (kind.Text n) name (value.Text a) (value.Text b) s e = refl
agrees (kind.Text n) name (value.Text a) value.Null s e = refl
agrees (kind.Text n) name value.Null v s e = refl

meets : (row : List Value) (columns : List Column) (number : ℕ) (v : Value) → fits row columns ≡ true → of_column columns number (compared v) ≡ None
    → Meets row number v
meets [] [] number v f e = refl
meets [] (c ∷ cs) number v f e = absurd cc
meets (m ∷ ms) [] number v f e = absurd cc
meets (m ∷ ms) (c ∷ cs) zero v f e = agrees c.kind c.name m v (both_true (may_stand c.kind m) (fits ms cs) f).0 e
meets (m ∷ ms) (c ∷ cs) (suc number) v f e = meets ms cs number v (both_true (may_stand c.kind m) (fits ms cs) f).1 e

textless : (k : Kind) (name : List ℕ) (mine : Value) → may_stand k mine ≡ true → cond (is_textual k) (Some (WrongKind name)) None ≡ None → is_text mine ≡ false
textless kind.Int name (value.Int a) s e = refl
textless kind.Int name (value.Text a) s e = absurd cc
textless kind.Int name value.Null s e = refl
textless (kind.Text n) name mine s e = absurd cc

no_text : (row : List Value) (columns : List Column) (number : ℕ) → fits row columns ≡ true → of_column columns number summed ≡ None
    → is_text (value_at row number) ≡ false
no_text [] [] number f e = refl
no_text [] (c ∷ cs) number f e = absurd cc
no_text (m ∷ ms) [] number f e = absurd cc
no_text (m ∷ ms) (c ∷ cs) zero f e = textless c.kind c.name m (both_true (may_stand c.kind m) (fits ms cs) f).0 e
no_text (m ∷ ms) (c ∷ cs) (suc number) f e = no_text ms cs number (both_true (may_stand c.kind m) (fits ms cs) f).1 e

-- ---- conditions and queries, of a row that fits

module _ (row : List Value) (columns : List Column) (f : fits row columns ≡ true) where
  has : (name : List ℕ) → unknown columns name ≡ None → HasColumn row (number_of columns name)
  has name e = let within = known_within columns name e in let same = fits_length row columns f in omega arith

  has_one : (name : List ℕ) → unknown_fault columns (name ∷ []) ≡ None → HasColumn row (number_of columns name)
  has_one name e = has name (neither (unknown columns name) None e).0

  meets_one : (name : List ℕ) (v : Lit) → value_fault columns (behind name v) ≡ None → Meets row (number_of columns name) (value_of v)
  meets_one name v e = meets row columns (number_of columns name) (value_of v) f e

  meets_all : (name : List ℕ) (vs : List Lit) → values_fault columns (map (behind name) vs) ≡ None
      → AllByRecursion (Meets row (number_of columns name)) (map value_of vs)
  meets_all name [] e = tt
  meets_all name (v ∷ vs) e =
      let both = neither (value_fault columns (behind name v)) (values_fault columns (map (behind name) vs)) e in
      (meets_one name v both.0, meets_all name vs both.1)

  mutual
    pub test_fits : (t : TermOf (List ℕ) Lit) → unknown_fault columns (term_names t) ≡ None → values_fault columns (term_values t) ≡ None
        → TestFits row (term_map (number_of columns) value_of t)
    test_fits (negation t) n e = test_fits t n e
    test_fits (nested c) n e = cond_fits c n e
    test_fits (comparison name cmp v) n e = (has_one name n, meets_one name v (neither (value_fault columns (behind name v)) None e).0)
    test_fits (null_test name negated) n e = has_one name n
    test_fits (between name negated low high) n e =
        let first = neither (value_fault columns (behind name low)) (option_or (value_fault columns (behind name high)) None) e in
        (has_one name n, meets_one name low first.0, meets_one name high (neither (value_fault columns (behind name high)) None first.1).0)
    test_fits (within name negated vs) n e = (has_one name n, meets_all name vs e)

    pub conj_fits : (c : ConjOf (List ℕ) Lit) → unknown_fault columns (conj_names c) ≡ None → values_fault columns (conj_values c) ≡ None
        → TestsFit row (conj_map (number_of columns) value_of c)
    conj_fits no_term n e = tt
    conj_fits (and_term t ts) n e =
        let names = none_of_both (unknown columns) (term_names t) (conj_names ts) n in
        let values = none_of_both (value_fault columns) (term_values t) (conj_values ts) e in
        (test_fits t names.0 values.0, conj_fits ts names.1 values.1)

    pub cond_fits : (c : CondOf (List ℕ) Lit) → unknown_fault columns (cond_names c) ≡ None → values_fault columns (cond_values c) ≡ None
        → FilterFits row (cond_map (number_of columns) value_of c)
    cond_fits no_conj n e = tt
    cond_fits (or_conj c cs) n e =
        let names = none_of_both (unknown columns) (conj_names c) (cond_names cs) n in
        let values = none_of_both (value_fault columns) (conj_values c) (cond_values cs) e in
        (conj_fits c names.0 values.0, cond_fits cs names.1 values.1)

  pub where_fits : (c : Option (CondOf (List ℕ) Lit)) → unknown_fault columns (where_names c) ≡ None → values_fault columns (where_values c) ≡ None
      → ForSome (filter_of columns c) (FilterFits row)
  where_fits None n e = λ x is. absurd cc
  where_fits (Some c) n e = λ x is. let same : cond_map (number_of columns) value_of c ≡ x = cc in rw (← same) (cond_fits c n e)

  -- every column
  all_fit : (a n : ℕ) → a + n ≤ length row → AllByRecursion (ItemFits row) (map item.Column (range_with_len a n))
  all_fit a zero le = tt
  all_fit a (suc n) le = (omega arith, all_fit (a + 1) n (omega arith))

  item_fits : (i : ItemOf (List ℕ)) → unknown_fault columns (item_names i) ≡ None → item_fault columns i ≡ None → ItemFits row (item_of columns i)
  item_fits (item.Column name) n e = has_one name n
  item_fits item.CountAll n e = tt
  item_fits (item.Aggregate function name) n e = (
    has_one name n,
    λ sums. no_text row columns (number_of columns name) f (ap (λ b. cond b (of_column columns (number_of columns name) summed) None) (sym sums) ∙ e),
  )

  items_fit : (is : List (ItemOf (List ℕ))) → unknown_fault columns (flat_map item_names is) ≡ None → first_fault (map (item_fault columns) is) ≡ None
      → AllByRecursion (ItemFits row) (map (item_of columns) is)
  items_fit [] n e = tt
  items_fit (i ∷ is) n e =
      let names = none_of_both (unknown columns) (item_names i) (flat_map item_names is) n in
      let kinds = neither (item_fault columns i) (first_fault (map (item_fault columns) is)) e in
      (item_fits i names.0 kinds.0, items_fit is names.1 kinds.1)

  list_fits : (l : ListPart) → unknown_fault columns (flat_map item_names (items_of l)) ≡ None
      → first_fault (map (item_fault columns) (items_of l)) ≡ None → AllByRecursion (ItemFits row) (list_of columns l)
  list_fits list.Star n e = let same = fits_length row columns f in all_fit 0 (length columns) (omega arith)
  list_fits (list.Items is) n e = items_fit is n e

  keys_fit : (ks : List KeyPart) → unknown_fault columns (flat_map item_names (map key_item ks)) ≡ None
      → first_fault (map (item_fault columns) (map key_item ks)) ≡ None → AllByRecursion (KeyFits row) (map (key_of columns) ks)
  keys_fit [] n e = tt
  keys_fit (k ∷ ks) n e =
      let names = none_of_both (unknown columns) (item_names k.item) (flat_map item_names (map key_item ks)) n in
      let kinds = neither (item_fault columns k.item) (first_fault (map (item_fault columns) (map key_item ks))) e in
      (item_fits k.item names.0 kinds.0, keys_fit ks names.1 kinds.1)

  groups_fit : (ns : List (List ℕ)) → unknown_fault columns ns ≡ None → AllByRecursion (HasColumn row) (map (number_of columns) ns)
  groups_fit [] e = tt
  groups_fit (name ∷ ns) e =
      let both = neither (unknown columns name) (unknown_fault columns ns) e in
      (has name both.0, groups_fit ns both.1)

  pub query_fits : (number : ℕ) (q : Query) → query_fault columns q ≡ None → BoundFits row (bound_of number columns q)
  query_fits number q e =
      let checks = neither (names_fault columns q) _ e in
      let n1 = neither (unknown_fault columns (flat_map item_names (items_of q.list))) _ checks.0 in
      let n2 = neither (unknown_fault columns (where_names q.cond)) _ n1.1 in
      let n3 = neither (unknown_fault columns q.groups) _ n2.1 in
      let n4 = neither (unknown_fault columns (flat_map item_names (map key_item q.keys))) _ n3.1 in
      let kinds = neither (kinds_fault columns q) _ checks.1 in
      let k1 = neither (first_fault (map (item_fault columns) (items_of q.list))) _ kinds.0 in
      let k2 = neither (values_fault columns (where_values q.cond)) _ k1.1 in
      let k3 = neither (first_fault (map (item_fault columns) (map key_item q.keys))) _ k2.1 in
      record { filter = where_fits q.cond n2.0 k2.0; items = list_fits q.list n1.0 k1.0; groups = groups_fit q.groups n3.0; keys = keys_fit q.keys n4.0 k3.0 }
