-- The groups of the rows of a unit, by the values of one column.
use Rattle.std.proofs.Common.{◌≡◌, Contains, ℕ, zero, suc, ◌+◌, ◌==◌, ◌<◌, Bool, true, false, if◌then◌else◌, List, [], ◌∷◌, length, map, slice_index_or, slice_index, refl, sym, ap, subst, ◌∙◌, arith}
use Rattle.std.specs.Prelude.{cond}
use Rattle.std.specs.List.{AllByRecursion}
use Rattle.std.specs.Ordering.{is_eq, ordering_reverse, ordering_then}
use Rattle.std.specs.declared.cmp.Ordering.{Ordering}
use Rattle.std.specs.declared.cmp.Ordering.TheVariants.{Less, Equal, Greater}
use Rattle.std.proofs.lemmas.Bool.Decides.{nat_tests}
use Rattle.std.proofs.lemmas.List.{get_or_default}
use Rattle.std.proofs.lemmas.List.Elements.{recursion_from_All}
use Rattle.std.proofs.lemmas.List.Sums.{sum_by-cons}
use Rattle.im_values.specs.declared.content.Content.{Content as Value}
use Rattle.im_values.specs.declared.content.Content.TheVariants.{Null}
use Rattle.im_values.specs.Order.{order}
use Rattle.im_values.proofs.ForCallers.{order_same, order_total}
use Rattle.im_syntax.specs.declared.bound.Bound.{Bound}
use Rattle.im_syntax.specs.BoundFits.{value_at}
use Rattle.im_history.specs.Rows.{Row}
use Rattle.im_history.specs.Units.{Content}
use Rattle.im_codes.specs.Dictionary.{StandAt, values_at}
use Rattle.im_codepred.specs.Tallies.{AreCounts, beside, chosen, count_of}
use Rattle.im_group.specs.declared.asked.Asked.{Asked}
use Rattle.im_group.specs.MadeGroups.{AreGroupsOf, kept_values, with_sums}
use Rattle.im_group.specs.Partials.{Numbered, is_key, key_of, keys_of, members, tallies_of}
use Rattle.im_group.specs.Sums.{column_of, sums_of}
use Rattle.im_group.specs.Tallies.{Tallied, asked_in, tallied, wanted}
use Rattle.im_group.proofs.ForCallers.{AreGroupsOf-both}
use Rattle.im_unit.specs.Holding.{present_rows, values_in}
use Rattle.im_scan.specs.inner.ByCode.{AreByCode, IsGroupedBy, group_for, groups_for}
use Rattle.im_scan.proofs.SummedLemmas.{chosen-map, map-same}

-- ---- values that tie

tied : (o : Ordering) → is_eq o ≡ true → o ≡ Equal
tied Equal e = refl
tied Less e = cc
tied Greater e = cc

-- a key of one value is that of another where the values tie
key-ties : (a b : Value) → is_key (a ∷ []) (b ∷ []) ≡ is_eq (order a b)
key-ties a b = by (order a b)
  where
    by : (o : Ordering) → is_eq (ordering_then o Equal) ≡ is_eq o
    by Less = refl
    by Equal = refl
    by Greater = refl

own_reverse : (o : Ordering) → o ≡ ordering_reverse o → is_eq o ≡ true
own_reverse Equal e = refl
own_reverse Less e = cc
own_reverse Greater e = cc

ties-itself : (a : Value) → is_eq (order a a) ≡ true
ties-itself a = own_reverse (order a a) (order_total.antisymm a a)

-- ---- the rows of one value

-- the values beside one value are those of the rows that have it
beside-members : (g : Row → Value) (column : ℕ) (v : Value) (rows : List Row) →
    beside v (map (λ r. value_at r column) rows) (map g rows) ≡ map g (members (column ∷ []) rows (v ∷ []))
beside-members g column v [] = refl
beside-members g column v (r ∷ rows) =
    by (is_eq (order (value_at r column) v)) (beside-members g column v rows)
    ∙ ap (λ (b : Bool). map g (if b then r ∷ members (column ∷ []) rows (v ∷ []) else members (column ∷ []) rows (v ∷ [])))
    (sym (key-ties (value_at r column) v))
  where
    others : List Value
    others = beside v (map (λ r. value_at r column) rows) (map g rows)

    by : (b : Bool) → others ≡ map g (members (column ∷ []) rows (v ∷ [])) →
        (if b then g r ∷ others else others) ≡
        map g (if b then r ∷ members (column ∷ []) rows (v ∷ []) else members (column ∷ []) rows (v ∷ []))
    by true e = ap (λ (l : List Value). g r ∷ l) e
    by false e = e

-- one more value is counted where it ties
pub count-cons : (v w : Value) (vs : List Value) → count_of v (w ∷ vs) ≡ cond (is_eq (order w v)) 1 0 + count_of v vs
count-cons v w vs = sum_by-cons (λ (u : Value). cond (is_eq (order u v)) 1 0) w vs

-- as many rows have a value
count-rows : (column : ℕ) (v : Value) (rows : List Row) →
    count_of v (map (λ r. value_at r column) rows) ≡ length (members (column ∷ []) rows (v ∷ []))
count-rows column v [] = refl
count-rows column v (r ∷ rows) =
    count-cons v (value_at r column) (map (λ r. value_at r column) rows)
    ∙ (by (is_eq (order (value_at r column) v)) (count-rows column v rows)
    ∙ ap (λ (b : Bool). length (if b then r ∷ members (column ∷ []) rows (v ∷ []) else members (column ∷ []) rows (v ∷ [])))
    (sym (key-ties (value_at r column) v)))
  where
    by : (b : Bool) → count_of v (map (λ r. value_at r column) rows) ≡ length (members (column ∷ []) rows (v ∷ [])) →
        cond b 1 0 + count_of v (map (λ r. value_at r column) rows) ≡
        length (if b then r ∷ members (column ∷ []) rows (v ∷ []) else members (column ∷ []) rows (v ∷ []))
    by true e = omega (arith, e)
    by false e = omega (arith, e)

-- ---- the groups of all values

-- the groups of those values that a row has
abbrev coded_groups : ℕ → List Row → List Asked → List Value → List (List Value × Tallied)
coded_groups column rows asked values =
    groups_for (λ v a. beside v (map (λ r. value_at r column) rows) (values_in a.column rows)) asked values
    (map (λ v. count_of v (map (λ r. value_at r column) rows)) values)

-- the group of a value has what its rows give
value-tallied : (column : ℕ) (rows : List Row) (asked : List Asked) (v : Value) →
    with_sums (count_of v (map (λ r. value_at r column) rows))
    (map (λ a. sums_of a (beside v (map (λ r. value_at r column) rows) (values_in a.column rows))) asked) ≡
    tallied asked (members (column ∷ []) rows (v ∷ []))
value-tallied column rows asked v =
    ap (λ n. with_sums n (map (λ a. sums_of a (beside v (map (λ r. value_at r column) rows) (values_in a.column rows))) asked))
    (count-rows column v rows)
    ∙ ap (with_sums (length (members (column ∷ []) rows (v ∷ []))))
    (map-same (λ a. sums_of a (beside v (map (λ r. value_at r column) rows) (values_in a.column rows)))
    (λ a. sums_of a (column_of a.column (members (column ∷ []) rows (v ∷ [])))) asked
    (λ a. ap (sums_of a) (beside-members (λ r. value_at r a.column) column v rows)))

all-tallied : (column : ℕ) (rows : List Row) (asked : List Asked) (values : List Value) →
    AllByRecursion (λ g. g.1 ≡ tallied asked (members (column ∷ []) rows g.0)) (coded_groups column rows asked values)
all-tallied column rows asked [] = tt
all-tallied column rows asked (v ∷ values) =
    by (count_of v (map (λ r. value_at r column) rows) == 0) (all-tallied column rows asked values)
  where
    first : List Value × Tallied
    first = group_for (λ a. beside v (map (λ r. value_at r column) rows) (values_in a.column rows)) asked v
        (count_of v (map (λ r. value_at r column) rows))

    by : (b : Bool) → AllByRecursion (λ g. g.1 ≡ tallied asked (members (column ∷ []) rows g.0)) (coded_groups column rows asked values) →
        AllByRecursion (λ g. g.1 ≡ tallied asked (members (column ∷ []) rows g.0))
        (if b then coded_groups column rows asked values else first ∷ coded_groups column rows asked values)
    by true all = all
    by false all = (value-tallied column rows asked v, all)

-- ---- keys

-- what stands among some stands among one more
contains-more : {X : Type 0} (x y : X) (xs : List X) → Contains xs y → Contains (x ∷ xs) y
contains-more x y xs among = (suc among.0, omega (arith, among.1), among.2)

all-more : {X : Type 0} (x : X) (xs ys : List X) → AllByRecursion (Contains xs) ys → AllByRecursion (Contains (x ∷ xs)) ys
all-more x xs [] all = tt
all-more x xs (y ∷ ys) all = (contains-more x y xs all.0, all-more x xs ys all.1)

-- each of some stands among them
all-among : {X : Type 0} (xs : List X) → AllByRecursion (Contains xs) xs
all-among [] = tt
all-among (x ∷ xs) = ((0, omega arith, refl), all-more x xs xs (all-among xs))

-- a value that is counted is the key of a row
counted-there : (column : ℕ) (v : Value) (rows : List Row) → (count_of v (map (λ r. value_at r column) rows) == 0) ≡ false →
    Contains (map (key_of (column ∷ [])) rows) (v ∷ [])
counted-there column v [] some = absurd (cc some)
counted-there column v (r ∷ rows) some = by (is_eq (order (value_at r column) v)) refl (counted-there column v rows)
  where
    later : ℕ
    later = count_of v (map (λ r. value_at r column) rows)

    by : (b : Bool) → is_eq (order (value_at r column) v) ≡ b →
        ((later == 0) ≡ false → Contains (map (key_of (column ∷ [])) rows) (v ∷ [])) → Contains (map (key_of (column ∷ [])) (r ∷ rows)) (v ∷ [])
    by true ties there = (0, omega arith, ap (λ (w : Value). w ∷ []) (order_same (value_at r column) v (tied (order (value_at r column) v) ties)))
    by false apart there =
        let same : count_of v (map (λ r. value_at r column) (r ∷ rows)) ≡ 0 + later =
        count-cons v (value_at r column) (map (λ r. value_at r column) rows) ∙ ap (λ (b : Bool). cond b 1 0 + later) apart in
        let fewer : count_of v (map (λ r. value_at r column) (r ∷ rows)) ≡ later = omega (arith, same) in
        contains-more (key_of (column ∷ []) r) (v ∷ []) (map (key_of (column ∷ [])) rows) (there (ap (λ n. n == 0) (sym fewer) ∙ some))

-- a value that stands among some is counted
counted-at : (w : Value) (vs : List Value) (k : ℕ) → k < length vs → slice_index_or vs k w ≡ w → (count_of w vs == 0) ≡ false
counted-at w [] k within is = absurd (omega (arith, within))
counted-at w (v ∷ vs) zero within is =
    let ties : is_eq (order v w) ≡ true = ap (λ (u : Value). is_eq (order u w)) is ∙ ties-itself w in
    let more : count_of w (v ∷ vs) ≡ cond true 1 0 + count_of w vs =
    count-cons w v vs ∙ ap (λ (b : Bool). cond b 1 0 + count_of w vs) ties in
    let one : count_of w (v ∷ vs) ≡ 1 + count_of w vs = more in
    grind (arith, nat_tests, one)
counted-at w (v ∷ vs) (suc k) within is =
    by (is_eq (order v w)) (count-cons w v vs) (counted-at w vs k (omega (arith, within)) is)
  where
    by : (b : Bool) → count_of w (v ∷ vs) ≡ cond b 1 0 + count_of w vs → (count_of w vs == 0) ≡ false → (count_of w (v ∷ vs) == 0) ≡ false
    by true more some = let one : count_of w (v ∷ vs) ≡ 1 + count_of w vs = more in grind (arith, nat_tests, one)
    by false more some = let none : count_of w (v ∷ vs) ≡ 0 + count_of w vs = more in grind (arith, nat_tests, none, some)

-- each key of a group is that of a row
keys-there : (column : ℕ) (rows : List Row) (asked : List Asked) (values : List Value) →
    AllByRecursion (Contains (map (key_of (column ∷ [])) rows)) (map (λ g. g.0) (coded_groups column rows asked values))
keys-there column rows asked [] = tt
keys-there column rows asked (v ∷ values) =
    by (count_of v (map (λ r. value_at r column) rows) == 0) refl (keys-there column rows asked values)
  where
    first : List Value × Tallied
    first = group_for (λ a. beside v (map (λ r. value_at r column) rows) (values_in a.column rows)) asked v
        (count_of v (map (λ r. value_at r column) rows))

    by : (b : Bool) → (count_of v (map (λ r. value_at r column) rows) == 0) ≡ b →
        AllByRecursion (Contains (map (key_of (column ∷ [])) rows)) (map (λ g. g.0) (coded_groups column rows asked values)) →
        AllByRecursion (Contains (map (key_of (column ∷ [])) rows))
        (map (λ (g : List Value × Tallied). g.0) (if b then coded_groups column rows asked values else first ∷ coded_groups column rows asked values))
    by true none all = all
    by false some all = (counted-there column v rows some, all)

-- a value that is counted, and stands among the values, is the key of a group
key-back : (column : ℕ) (rows : List Row) (asked : List Asked) (w : Value) (values : List Value) (k : ℕ) →
    (count_of w (map (λ r. value_at r column) rows) == 0) ≡ false → k < length values → slice_index_or values k w ≡ w →
    Contains (map (λ g. g.0) (coded_groups column rows asked values)) (w ∷ [])
key-back column rows asked w [] k some within is = absurd (omega (arith, within))
key-back column rows asked w (v ∷ values) zero some within is =
    subst
    (λ (b : Bool). Contains (map (λ (g : List Value × Tallied). g.0) (if b then coded_groups column rows asked values
    else group_for (λ a. beside v (map (λ r. value_at r column) rows) (values_in a.column rows)) asked v
    (count_of v (map (λ r. value_at r column) rows)) ∷ coded_groups column rows asked values)) (w ∷ []))
    (sym (ap (λ (u : Value). count_of u (map (λ r. value_at r column) rows) == 0) is ∙ some))
    (0, omega arith, ap (λ (u : Value). u ∷ []) is)
key-back column rows asked w (v ∷ values) (suc k) some within is =
    by (count_of v (map (λ r. value_at r column) rows) == 0) (key-back column rows asked w values k some (omega (arith, within)) is)
  where
    first : List Value × Tallied
    first = group_for (λ a. beside v (map (λ r. value_at r column) rows) (values_in a.column rows)) asked v
        (count_of v (map (λ r. value_at r column) rows))

    by : (b : Bool) → Contains (map (λ g. g.0) (coded_groups column rows asked values)) (w ∷ []) →
        Contains (map (λ (g : List Value × Tallied). g.0) (if b then coded_groups column rows asked values
        else first ∷ coded_groups column rows asked values)) (w ∷ [])
    by true among = among
    by false among = contains-more (v ∷ []) (w ∷ []) (map (λ g. g.0) (coded_groups column rows asked values)) among

-- so each key of a row is that of a group
keys-back : (column : ℕ) (rows : List Row) (asked : List Asked) (values : List Value) (some : List Row) →
    AllByRecursion (Contains (map (λ r. value_at r column) rows)) (map (λ r. value_at r column) some) →
    AllByRecursion (Contains values) (map (λ r. value_at r column) some) →
    AllByRecursion (Contains (map (λ g. g.0) (coded_groups column rows asked values))) (map (key_of (column ∷ [])) some)
keys-back column rows asked values [] there among = tt
keys-back column rows asked values (r ∷ some) there among = (
  key-back column rows asked (value_at r column) values among.0.0
      (counted-at (value_at r column) (map (λ r. value_at r column) rows) there.0.0 there.0.1 there.0.2) among.0.1 among.0.2,
  keys-back column rows asked values some there.1 among.1,
)

-- what holds of the values of rows holds of those that are chosen
all-chosen : (Q : Value → Type 0) (f : Row → Value) (mask : List Bool) (rows : List Row) → AllByRecursion Q (map f rows) →
    AllByRecursion Q (map f (chosen mask rows))
all-chosen Q f [] rows all = tt
all-chosen Q f (here ∷ mask) [] all = tt
all-chosen Q f (true ∷ mask) (r ∷ rows) all = (all.0, all-chosen Q f mask rows all.1)
all-chosen Q f (false ∷ mask) (r ∷ rows) all = all-chosen Q f mask rows all.1

-- ---- the groups of the chosen rows

-- they are those of any rows of which a query keeps the chosen ones
pub by-code-groups : (bound : Bound) (column : ℕ) (content : Content) (spots : List Bool) (keys : List Value) (rows : List Numbered)
    (asked : List Asked) (groups : List (List Value × Tallied)) → IsGroupedBy column bound →
    kept_values bound rows ≡ chosen spots (present_rows content.rows) →
    asked ≡ asked_in (wanted bound) → keys ≡ values_in column (present_rows content.rows) →
    AreByCode spots keys (present_rows content.rows) asked groups → AreGroupsOf bound rows groups
by-code-groups bound column content spots keys rows asked groups by_one same asks keys_are are =
    subst (AreGroupsOf bound rows) (sym made) (AreGroupsOf-both bound rows found tallies there back)
  where
    held : List Row
    held = present_rows content.rows

    taken : List Row
    taken = chosen spots held

    found : List (List Value × Tallied)
    found = coded_groups column taken asked are.values

    same_key : chosen spots keys ≡ map (λ r. value_at r column) taken
    same_key = ap (λ (ks : List Value). chosen spots ks) keys_are ∙ chosen-map spots (λ r. value_at r column) held

    same_column : (a : Asked) → chosen spots (values_in a.column held) ≡ values_in a.column taken
    same_column a = chosen-map spots (λ r. value_at r a.column) held

    made : groups ≡ found
    made =
        are.made
        ∙ (λ i. groups_for (λ v a. beside v (same_key i) (same_column a i)) asked are.values (map (λ v. count_of v (same_key i)) are.values))

    tallies : AllByRecursion (λ g. g.1 ≡ tallies_of bound (kept_values bound rows) g.0) found
    tallies =
        subst (λ (vs : List Row). AllByRecursion (λ g. g.1 ≡ tallies_of bound vs g.0) found) (sym same)
        (subst (λ (qs : List Asked). AllByRecursion (λ g. g.1 ≡ tallied qs (members bound.groups taken g.0)) found) asks
        (subst (λ (cs : List ℕ). AllByRecursion (λ g. g.1 ≡ tallied asked (members cs taken g.0)) found) (sym by_one.alone)
        (all-tallied column taken asked are.values)))

    there : AllByRecursion (Contains (keys_of bound.groups (kept_values bound rows))) (map (λ g. g.0) found)
    there =
        subst (λ (vs : List Row). AllByRecursion (Contains (keys_of bound.groups vs)) (map (λ g. g.0) found)) (sym same)
        (subst (λ (cs : List ℕ). AllByRecursion (Contains (keys_of cs taken)) (map (λ g. g.0) found)) (sym by_one.alone)
        (keys-there column taken asked are.values))

    among : AllByRecursion (Contains are.values) (map (λ r. value_at r column) taken)
    among =
        all-chosen (Contains are.values) (λ r. value_at r column) spots held
        (subst (λ (ks : List Value). AllByRecursion (Contains are.values) ks) keys_are are.all)

    back : AllByRecursion (Contains (map (λ g. g.0) found)) (keys_of bound.groups (kept_values bound rows))
    back =
        subst (λ (vs : List Row). AllByRecursion (Contains (map (λ g. g.0) found)) (keys_of bound.groups vs)) (sym same)
        (subst (λ (cs : List ℕ). AllByRecursion (Contains (map (λ g. g.0) found)) (keys_of cs taken)) (sym by_one.alone)
        (keys-back column taken asked are.values taken (all-among (map (λ r. value_at r column) taken)) among))

-- ---- codes

-- counts of each value are those of the values
counts-each : (vs values : List Value) (counts : List ℕ) → length counts ≡ length values →
    ((code : ℕ) → code < length values → slice_index counts code ≡ count_of (slice_index_or values code Null) vs) →
    counts ≡ map (λ v. count_of v vs) values
counts-each vs [] [] long each = refl
counts-each vs [] (n ∷ counts) long each = absurd (omega (arith, long))
counts-each vs (v ∷ values) [] long each = absurd (omega (arith, long))
counts-each vs (v ∷ values) (n ∷ counts) long each =
    ap (λ (m : ℕ). m ∷ counts) (each 0 (omega arith))
    ∙ ap (λ (l : List ℕ). count_of v vs ∷ l)
    (counts-each vs values counts (omega (arith, long)) (λ code within. each (suc code) (omega (arith, within))))

pub counts-are : (vs values : List Value) (counts : List ℕ) → AreCounts vs values counts → counts ≡ map (λ v. count_of v vs) values
counts-are vs values counts are = counts-each vs values counts are.size are.each

-- values that stand at places of a list stand in it
places-in : (list : List Value) (places : List ℕ) → AllByRecursion (λ place. place < length list) places →
    AllByRecursion (Contains list) (values_at list places)
places-in list [] inside = tt
places-in list (place ∷ places) inside =
    ((place, inside.0, get_or_default list place (slice_index_or list place Null) Null inside.0), places-in list places inside.1)

pub codes-in : (values list : List Value) (places : List ℕ) → StandAt values list places → AllByRecursion (Contains list) values
codes-in values list places stand =
    subst (λ (vs : List Value). AllByRecursion (Contains list) vs) stand.same
    (places-in list places (recursion_from_All (λ place. place < length list) places stand.inside))
