-- The part of a query that is grouped by a column which is kept as codes.
use Rattle.std.proofs.Common.{◌≡◌, ℕ, zero, suc, ◌+◌, ◌==◌, ◌<◌, Bool, true, false, if◌then◌else◌, List, [], ◌∷◌, ◌++◌, length, map, take, get_or, slice_index_or, refl, sym, ap, subst, ◌∙◌, arith, append-nil}
use Rattle.std.specs.List.{AllByRecursion}
use Rattle.std.proofs.lemmas.List.{map-append, take_more}
use Rattle.im_values.specs.declared.content.Content.{Content as Value}
use Rattle.im_values.specs.declared.content.Content.TheVariants.{Null}
use Rattle.im_history.specs.Rows.{Row}
use Rattle.im_codepred.specs.declared.tally.Tally.{Tally}
use Rattle.im_codepred.specs.Tallies.{AreTallies, IsTallyFor, chosen_with}
use Rattle.im_group.specs.declared.asked.Asked.{Asked}
use Rattle.im_group.specs.Sums.{SumsOf, sums_of}
use Rattle.im_group.specs.Tallies.{Tallied}
use Rattle.im_unit.specs.Holding.{values_in}
use Rattle.im_scan.specs.inner.Summed.{wants_ends}
use Rattle.im_scan.specs.inner.ByCode.{AreAllTallies, ComeTo, group_for, groups_for}
use Rattle.im_group.specs.MadeGroups.{with_sums}

-- ---- tallies of all columns

all-push : (mask : List Bool) (keys : List Value) (held : List Row) (values : List Value) (asked : List Asked) (a : Asked)
    (all : List (List Tally)) (t : List Tally) → AreAllTallies mask keys held values asked all →
    AreTallies (wants_ends a) mask keys (values_in a.column held) values t → AreAllTallies mask keys held values (asked ++ a ∷ []) (all ++ t ∷ [])
all-push mask keys held values [] a [] t are here = (here, tt)
all-push mask keys held values [] a (u ∷ all) t are here = absurd are
all-push mask keys held values (b ∷ asked) a [] t are here = absurd are
all-push mask keys held values (b ∷ asked) a (u ∷ all) t are here = (are.0, all-push mask keys held values asked a all t are.1 here)

-- one column more
pub all-more : (mask : List Bool) (keys : List Value) (held : List Row) (values : List Value) (asked : List Asked) (i : ℕ) (d : Asked)
    (all : List (List Tally)) (t : List Tally) → i < length asked → AreAllTallies mask keys held values (take i asked) all →
    AreTallies (wants_ends (get_or asked i d)) mask keys (values_in (get_or asked i d).column held) values t →
    AreAllTallies mask keys held values (take (i + 1) asked) (all ++ t ∷ [])
all-more mask keys held values asked i d all t within are here =
    subst (λ (qs : List Asked). AreAllTallies mask keys held values qs (all ++ t ∷ [])) (sym (take_more asked i d within))
    (all-push mask keys held values (take i asked) (get_or asked i d) all t are here)

-- there is one list for each column
pub all-size : (mask : List Bool) (keys : List Value) (held : List Row) (values : List Value) (asked : List Asked) (all : List (List Tally)) →
    AreAllTallies mask keys held values asked all → length all ≡ length asked
all-size mask keys held values [] [] are = refl
all-size mask keys held values [] (t ∷ all) are = absurd are
all-size mask keys held values (a ∷ asked) [] are = absurd are
all-size mask keys held values (a ∷ asked) (t ∷ all) are = ap suc (all-size mask keys held values asked all are.1)

-- each has a tally for each value
pub all-long : (mask : List Bool) (keys : List Value) (held : List Row) (values : List Value) (asked : List Asked) (all : List (List Tally)) →
    AreAllTallies mask keys held values asked all → AllByRecursion (λ t. length t ≡ length values) all
all-long mask keys held values [] [] are = tt
all-long mask keys held values [] (t ∷ all) are = absurd are
all-long mask keys held values (a ∷ asked) [] are = absurd are
all-long mask keys held values (a ∷ asked) (t ∷ all) are = (are.0.size, all-long mask keys held values asked all are.1)

-- what holds of the images of some
pub all-unmapped : {X Y : Type 0} (P : Y → Type 0) (f : X → Y) (xs : List X) → AllByRecursion P (map f xs) → AllByRecursion (λ x. P (f x)) xs
all-unmapped P f [] all = tt
all-unmapped P f (x ∷ xs) all = (all.0, all-unmapped P f xs all.1)

-- at each place they are those of one value
pub come-to : (mask : List Bool) (keys : List Value) (held : List Row) (values : List Value) (asked : List Asked) (all : List (List Tally))
    (code : ℕ) → AreAllTallies mask keys held values asked all → code < length values →
    ComeTo (λ a. chosen_with (slice_index_or values code Null) mask keys (values_in a.column held)) code asked all
come-to mask keys held values [] all code are within = tt
come-to mask keys held values (a ∷ asked) [] code are within = tt
come-to mask keys held values (a ∷ asked) (t ∷ all) code are within =
    ((λ d. are.0.each code d within), come-to mask keys held values asked all code are.1 within)

-- the tally of one column at a place
pub come-at : (of : Asked → List Value) (place : ℕ) (asked : List Asked) (all : List (List Tally)) (i : ℕ) (a : Asked) (ds : List Tally) (d : Tally) →
    ComeTo of place asked all → i < length asked → i < length all →
    IsTallyFor (wants_ends (get_or asked i a)) (of (get_or asked i a)) (slice_index_or (slice_index_or all i ds) place d)
come-at of place [] all i a ds d come within inside = absurd (omega (arith, within))
come-at of place (b ∷ asked) [] i a ds d come within inside = absurd (omega (arith, inside))
come-at of place (b ∷ asked) (t ∷ all) zero a ds d come within inside = come.0 d
come-at of place (b ∷ asked) (t ∷ all) (suc i) a ds d come within inside =
    come-at of place asked all i a ds d come.1 (omega (arith, within)) (omega (arith, inside))

-- one summary more
pub sums-more : (of : Asked → List Value) (asked : List Asked) (i : ℕ) (d : Asked) (sums new : List SumsOf) (found : SumsOf) → i < length asked →
    sums ≡ map (λ a. sums_of a (of a)) (take i asked) → found ≡ sums_of (get_or asked i d) (of (get_or asked i d)) → new ≡ sums ++ found ∷ [] →
    new ≡ map (λ a. sums_of a (of a)) (take (i + 1) asked)
sums-more of asked i d sums new found within so_far is pushed =
    pushed
    ∙ (ap (λ (l : List SumsOf). l ++ found ∷ []) so_far
    ∙ (ap (λ (s : SumsOf). map (λ a. sums_of a (of a)) (take i asked) ++ s ∷ []) is
    ∙ (sym (map-append (λ a. sums_of a (of a)) (take i asked) (get_or asked i d ∷ []))
    ∙ ap (map (λ a. sums_of a (of a))) (sym (take_more asked i d within)))))

-- ---- groups so far

-- a key of one value, and the summaries
pub group-made : (of : Asked → List Value) (asked : List Asked) (value : Value) (n : ℕ) (key : List Value) (found : List SumsOf) →
    key ≡ value ∷ [] → found ≡ map (λ a. sums_of a (of a)) asked →
    ◌≡◌ {A = List Value × Tallied} (key, with_sums n found) (group_for of asked value n)
group-made of asked value n key found is summed =
    ap (λ (k : List Value). let g : List Value × Tallied = (k, with_sums n found) in g) is
    ∙ ap (λ (l : List SumsOf). let g : List Value × Tallied = (value ∷ [], with_sums n l) in g) summed

-- the groups of one value more
pub groups-more : (of : Value → Asked → List Value) (asked : List Asked) (values : List Value) (counts : List ℕ) (i : ℕ) (n : ℕ) →
    i < length counts → length counts ≡ length values → n ≡ get_or counts i 0 →
    groups_for of asked (take (i + 1) values) (take (i + 1) counts) ≡
    groups_for of asked (take i values) (take i counts)
    ++ (if n == 0 then [] else group_for (of (slice_index_or values i Null)) asked (slice_index_or values i Null) n ∷ [])
groups-more of asked values [] i n within long is = absurd (omega (arith, within))
groups-more of asked [] (m ∷ counts) i n within long is = absurd (omega (arith, long))
groups-more of asked (v ∷ values) (m ∷ counts) zero n within long is = by
  where
    one : (b : Bool) → (if b then [] else group_for (of v) asked v m ∷ []) ≡ [] ++ (if b then [] else group_for (of v) asked v m ∷ [])
    one b = refl

    by : groups_for of asked (take 1 (v ∷ values)) (take 1 (m ∷ counts)) ≡
        [] ++ (if n == 0 then [] else group_for (of v) asked v n ∷ [])
    by = ap (λ (k : ℕ). if k == 0 then [] else group_for (of v) asked v k ∷ []) (sym is)
groups-more of asked (v ∷ values) (m ∷ counts) (suc i) n within long is =
    let next : suc i + 1 ≡ suc (i + 1) = omega arith in
    ap (λ (k : ℕ). groups_for of asked (take k (v ∷ values)) (take k (m ∷ counts))) next
    ∙ by (m == 0) (groups-more of asked values counts i n (omega (arith, within)) (omega (arith, long)) is)
  where
    last : List (List Value × Tallied)
    last = if n == 0 then [] else group_for (of (slice_index_or values i Null)) asked (slice_index_or values i Null) n ∷ []

    by : (b : Bool) →
        groups_for of asked (take (i + 1) values) (take (i + 1) counts) ≡ groups_for of asked (take i values) (take i counts) ++ last →
        (if b then groups_for of asked (take (i + 1) values) (take (i + 1) counts)
        else group_for (of v) asked v m ∷ groups_for of asked (take (i + 1) values) (take (i + 1) counts)) ≡
        (if b then groups_for of asked (take i values) (take i counts)
        else group_for (of v) asked v m ∷ groups_for of asked (take i values) (take i counts)) ++ last
    by true e = e
    by false e = ap (λ l. group_for (of v) asked v m ∷ l) e

-- the group of one value more was put
pub groups-put : (of : Value → Asked → List Value) (asked : List Asked) (values : List Value) (counts : List ℕ) (i n : ℕ)
    (groups new : List (List Value × Tallied)) (g : List Value × Tallied) → i < length counts → length counts ≡ length values →
    n ≡ get_or counts i 0 → (n == 0) ≡ false → groups ≡ groups_for of asked (take i values) (take i counts) →
    g ≡ group_for (of (slice_index_or values i Null)) asked (slice_index_or values i Null) n → new ≡ groups ++ g ∷ [] →
    new ≡ groups_for of asked (take (i + 1) values) (take (i + 1) counts)
groups-put of asked values counts i n groups new g within long is some so_far here pushed =
    pushed
    ∙ (ap (λ l. l ++ g ∷ []) so_far
    ∙ (ap (λ x. groups_for of asked (take i values) (take i counts) ++ x ∷ []) here
    ∙ (ap
    (λ (b : Bool). groups_for of asked (take i values) (take i counts)
    ++ (if b then [] else group_for (of (slice_index_or values i Null)) asked (slice_index_or values i Null) n ∷ [])) (sym some)
    ∙ sym (groups-more of asked values counts i n within long is))))

-- no group of a value of which there is none
pub groups-passed : (of : Value → Asked → List Value) (asked : List Asked) (values : List Value) (counts : List ℕ) (i n : ℕ)
    (groups : List (List Value × Tallied)) → i < length counts → length counts ≡ length values →
    n ≡ get_or counts i 0 → (n == 0) ≡ true → groups ≡ groups_for of asked (take i values) (take i counts) →
    groups ≡ groups_for of asked (take (i + 1) values) (take (i + 1) counts)
groups-passed of asked values counts i n groups within long is none so_far =
    so_far
    ∙ (sym (append-nil (groups_for of asked (take i values) (take i counts)))
    ∙ (ap
    (λ (b : Bool). groups_for of asked (take i values) (take i counts)
    ++ (if b then [] else group_for (of (slice_index_or values i Null)) asked (slice_index_or values i Null) n ∷ [])) (sym none)
    ∙ sym (groups-more of asked values counts i n within long is)))
