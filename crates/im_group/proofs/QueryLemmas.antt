-- What a query asks of its rows, and that the keys of its groups have a value for each column of GROUP BY.
use Rattle.std.proofs.Common.{◌≡◌, ℕ, ◌≤◌, Bool, true, false, cond, ◌||◌, List, [], ◌∷◌, ◌++◌, length, map, drop, Option, None, Some, refl, sym, ap, ◌∙◌}
use Rattle.std.specs.List.{AllByRecursion, list_any}
use Rattle.std.specs.Global.{Vec}
use Rattle.std.specs.Ordering.{is_eq}
use Rattle.std.specs.FinMap as map_of
use Rattle.std.proofs.lemmas.List.{length-map, at_drop_all}
use Rattle.std.proofs.lemmas.Cmp.{tied_itself}
use Rattle.im_values.specs.declared.content.Content.{Content as Value}
use Rattle.im_syntax.specs.declared.bound.Bound.{Bound}
use Rattle.im_syntax.specs.BoundFits.{value_at}
use Rattle.im_syntax.specs.BoundQuery.{is_listed, IsOfRow, IsQuery}
use Rattle.im_syntax.specs.Functions.{is_aggregate}
use Rattle.im_group.specs.Tallies.{Tallied, wanted}
use Rattle.im_group.specs.Partials.{Numbered, Parts, IsPart, key_order, key_of, is_key, kept, keyed, held, keys_of, groups_of}
use Rattle.im_group.specs.inner.Holding.{AreKeyed}
use Rattle.im_group.specs.inner.Steps.{tallies_at}
use Rattle.im_group.proofs.Orders.{key_total, key_same}
use Rattle.im_group.proofs.GroupLemmas.{stands, equal, get-groups_of}
use Rattle.im_group.proofs.Parts.{plain, grouped}
use Rattle.im_group.proofs.Sorting.{true_is_not_false}

-- ---- what is asked

all-both : {A : Type 0} (P : A → Type 0) (xs ys : List A) → AllByRecursion P xs → AllByRecursion P ys → AllByRecursion P (xs ++ ys)
all-both P [] ys all more = more
all-both P (x ∷ xs) ys all more = (all.0, all-both P xs ys all.1 more)

neither : (a b : Bool) → (a || b) ≡ false → (a ≡ false) × (b ≡ false)
neither true b e = absurd (true_is_not_false e)
neither false b e = (refl, e)

none_passes : {A : Type 0} (p : A → Bool) (xs : List A) → list_any p xs ≡ false → AllByRecursion (λ x. p x ≡ false) xs
none_passes p [] e = tt
none_passes p (x ∷ xs) e = let both = neither (p x) (list_any p xs) e in (both.0, none_passes p xs both.1)

-- a query that is not grouped asks for plain columns alone
pub rows-wanted : (bound : Bound) → IsQuery bound → bound.grouped ≡ false → AllByRecursion IsOfRow (wanted bound)
rows-wanted bound query is =
    let keys = map (λ key. key.item) bound.keys in
    let both = neither _ (list_any is_aggregate keys) (sym query.grouped ∙ is) in
    let first = neither _ (list_any is_aggregate bound.items) both.0 in
    all-both IsOfRow bound.items keys (none_passes is_aggregate bound.items first.1) (none_passes is_aggregate keys both.1)

-- no column is listed behind the last
pub none_listed : (columns : List ℕ) (column i : ℕ) → length columns ≤ i → is_listed (drop i columns) column ≡ true → ⊥
none_listed columns column i past is =
    true_is_not_false (sym is ∙ at_drop_all (λ l. is_listed l column) columns i past)

-- ---- keys

keys-whole : (columns : List ℕ) (rows : List (List Value)) → AllByRecursion (λ k. length k ≡ length columns) (keys_of columns rows)
keys-whole [] rows = (refl, tt)
keys-whole (c ∷ cs) rows = each rows
  where
    each : (rows : List (List Value)) → AllByRecursion (λ k. length k ≡ length (c ∷ cs)) (map (key_of (c ∷ cs)) rows)
    each [] = tt
    each (row ∷ rows) = (length-map (c ∷ cs) (value_at row), each rows)

stands-whole : (q : List Value) (ks : List (List Value)) (n : ℕ) → AllByRecursion (λ k. length k ≡ n) ks → stands q ks ≡ true → length q ≡ n
stands-whole q [] n all e = absurd (true_is_not_false (sym e))
stands-whole q (k ∷ ks) n all e = go (is_eq (key_order q k)) refl e (stands-whole q ks n all.1)
  where
    go : (b : Bool) → is_eq (key_order q k) ≡ b → cond b true (stands q ks) ≡ true → (stands q ks ≡ true → length q ≡ n) → length q ≡ n
    go true same e more = ap length (key_same q k (equal _ same)) ∙ all.0
    go false same e more = more e

is_there : (b : Bool) (v ts : Tallied) → cond b (Some v) None ≡ Some ts → b ≡ true
is_there true v ts e = refl
is_there false v ts e = absurd cc

-- a group of a part has a value for each column of GROUP BY
group-whole : (b : Bool) (bound : Bound) (rows : List Numbered) (q : List Value) (ts : Tallied)
    → map_of.get (cond b (grouped (groups_of bound (map (λ r. r.1) (kept bound rows)))) (plain (kept bound rows))).groups q ≡ Some ts
    → length q ≡ length bound.groups
group-whole true bound rows q ts e =
    let values = map (λ r. r.1) (kept bound rows) in
    stands-whole q (keys_of bound.groups values) (length bound.groups) (keys-whole bound.groups values)
    (is_there _ _ ts (sym (get-groups_of bound values q) ∙ e))
group-whole false bound rows q ts e =
    let none = sym (map_of.get-empty {X = Tallied} key_order q) ∙ e in absurd cc

-- what holds of each key that is found holds of each that is held
entries-all : {K : Type 0} (f : K → List Value) (P : List Value → Type 0) (es : List (K × Tallied))
    → ((q : List Value) (ts : Tallied) → tallies_at (keyed f es) q ≡ Some ts → P q) → AllByRecursion (λ g. P (f g.0)) es
entries-all f P [] all = tt
entries-all f P (g ∷ es) all = (
  all (f g.0) g.1 (ap (at (f g.0)) (ap is_eq (tied_itself key_total (f g.0)))),
  entries-all f P es (λ q ts e. later q ts e (is_key q (f g.0)) refl),
)
  where
    at : List Value → Bool → Option Tallied
    at q b = cond b (Some g.1) (tallies_at (keyed f es) q)

    later : (q : List Value) (ts : Tallied) → tallies_at (keyed f es) q ≡ Some ts → (b : Bool) → is_key q (f g.0) ≡ b → P q
    later q ts e true here = all q g.1 (ap (at q) here)
    later q ts e false here = all q ts (ap (at q) here ∙ e)

pub part-keyed : (bound : Bound) (part : Parts) (es : List (Vec Value × Tallied)) → IsPart bound part
    → held (λ k. k.items) es ≡ part.groups → AreKeyed (length bound.groups) es
part-keyed bound part es is of =
    entries-all (λ (k : Vec Value). k.items) (λ q. length q ≡ length bound.groups) es (λ q ts e.
    group-whole bound.grouped bound is.rows q ts
    (ap (λ m. map_of.get m q) (sym (of ∙ ap (λ (p : Parts). p.groups) is.is))
    ∙ (map_of.get-from_entries key_total (keyed (λ (k : Vec Value). k.items) es) q ∙ e)))
