-- The part of a query that takes the rows of a unit together, by a summary of each column.
use Rattle.std.proofs.Common.{◌≡◌, ℕ, ◌+◌, ◌*◌, ◌^◌, ◌≤◌, Bool, true, false, if◌then◌else◌, List, [], ◌∷◌, length, map, filter, get_or, count_by, Option, Some, ℤ, pos, ◌+ℤ◌, ◌≤ℤ◌, neg_ℤ, refl, sym, ap, subst, ◌∙◌, arith}
use Rattle.std.specs.List.{fold}
use Rattle.std.specs.Option.{option_copied, unwrap_or}
use Rattle.std.specs.Int.RustNames.{unsigned_abs}
use Rattle.std.proofs.lemmas.Int.{ints}
use Rattle.std.specs.Prelude.{cond, ◌||◌}
use Rattle.std.proofs.lemmas.List.{length-map}
use Rattle.std.proofs.lemmas.List.FromFn.{length-map-range_with_len}
use Rattle.std.proofs.lemmas.List.Sums.{sum_by-cons}
use Rattle.im_values.specs.declared.content.Content.{Content as Value}
use Rattle.im_values.specs.declared.content.Content.TheVariants.{Int, Text, Null}
use Rattle.im_syntax.specs.declared.bound.Bound.{Bound}
use Rattle.im_history.specs.Rows.{Row}
use Rattle.im_history.specs.Units.{Content}
use Rattle.im_codepred.specs.Tallies as code
use Rattle.im_codepred.specs.declared.tally.Tally.{Tally}
use Rattle.im_group.specs.declared.asked.Asked.{Asked}
use Rattle.im_group.specs.MadeGroups.{AreGroupsOf, is_among, kept_values, with_sums}
use Rattle.im_group.specs.Partials.{Numbered, members, keys_of}
use Rattle.im_group.specs.Sums as sums
use Rattle.im_group.specs.Tallies.{Tallied, asked_in, tallied, wanted}
use Rattle.im_unit.specs.Holding.{columns_of, count_present, present_rows, values_in}
use Rattle.im_unit.proofs.ForCallers.{count-present}
use Rattle.im_scan.specs.inner.Summed.{TakesTogether, wants_ends}

-- the values in two that are there are one
pub some-inj : {A : Type 0} {a b : A} → ◌≡◌ {A = Option A} (Some a) (Some b) → a ≡ b
some-inj e = cc

-- ---- one summary

-- both definitions of the number of a value are one
same-number : (v : Value) → code.number v ≡ sums.number v
same-number (Int n) = refl
same-number (Text t) = refl
same-number Null = refl

-- and so are both sums, from any sum on
same-fold : (vs : List Value) (s : ℤ) → fold (λ sum v. sum +ℤ code.number v) s vs ≡ fold (λ sum v. sum +ℤ sums.number v) s vs
same-fold [] s = refl
same-fold (v ∷ vs) s =
    same-fold vs (s +ℤ code.number v) ∙ ap (λ (n : ℤ). fold (λ sum v. sum +ℤ sums.number v) (s +ℤ n) vs) (same-number v)

-- an end that is there is the value, and else NULL
some-end : (v : Value) → unwrap_or (code.some_of v) Null ≡ v
some-end (Int n) = refl
some-end (Text t) = refl
some-end Null = refl

-- an end is there, or NULL
end-is : (asked : Bool) (end : Option Value) (v : Value) → (asked ≡ true → end ≡ code.some_of v) →
    (if asked then unwrap_or end Null else Null) ≡ (if asked then v else Null)
end-is true end v is = ap (λ (o : Option Value). unwrap_or o Null) (is refl) ∙ some-end v
end-is false end v is = refl

either : (a b : Bool) → b ≡ true → (a || b) ≡ true
either true b is = refl
either false b is = is

-- what values come to has what is asked of them
pub tally-for : (ends : Bool) (vs : List Value) (tally : Tally) → code.IsTallyOf vs tally → code.IsTallyFor ends vs tally
tally-for ends vs tally is = record {
  values = is.values;
  sum = is.sum;
  least = λ wanted. is.least;
  greatest = λ wanted. is.greatest;
  within = is.within;
}

-- what values come to, with the ends that are asked for, is their summary
summary-is : (asked : Asked) (vs : List Value) (tally : Tally) (end_low end_high : Value) (found : sums.SumsOf) → code.IsTallyFor (wants_ends asked) vs tally →
    end_low ≡ (if asked.least then code.least vs else Null) → end_high ≡ (if asked.greatest then code.greatest vs else Null) →
    found ≡ record { values = tally.values; total = tally.sum; least = end_low; greatest = end_high } → found ≡ sums.sums_of asked vs
summary-is asked vs tally end_low end_high found is low high made =
    made
    ∙ (ap (λ n. let s : sums.SumsOf = record { values = n; total = tally.sum; least = end_low; greatest = end_high } in s) is.values
    ∙ (ap (λ n. let s : sums.SumsOf = record { values = length (sums.present vs); total = n; least = end_low; greatest = end_high } in s)
    (is.sum ∙ same-fold vs (pos 0))
    ∙ (ap (λ v. let s : sums.SumsOf = record { values = length (sums.present vs); total = sums.total vs; least = v; greatest = end_high } in s) low
    ∙ ap (λ v. let s : sums.SumsOf = record { values = length (sums.present vs); total = sums.total vs; least = if asked.least then sums.least vs else Null; greatest = v } in s) high)))

-- the same where the total was written and read back, and each end copied
pub summary-as : (asked : Asked) (vs : List Value) (tally : Tally) (same : ℤ) (end_low end_high : Value) (found : sums.SumsOf) → code.IsTallyFor (wants_ends asked) vs tally →
    same ≡ tally.sum → end_low ≡ (if asked.least then unwrap_or (option_copied tally.least) Null else Null) →
    end_high ≡ (if asked.greatest then unwrap_or (option_copied tally.greatest) Null else Null) →
    found ≡ record { values = tally.values; total = same; least = end_low; greatest = end_high } → found ≡ sums.sums_of asked vs
summary-as asked vs tally same end_low end_high found is sum low high made =
    summary-is asked vs tally end_low end_high found is (low ∙ end-is asked.least (option_copied tally.least) (code.least vs) (λ wanted. is.least (rw wanted refl)))
    (high ∙ end-is asked.greatest (option_copied tally.greatest) (code.greatest vs) (λ wanted. is.greatest (either asked.least asked.greatest wanted)))
    (made ∙ ap (λ n. let s : sums.SumsOf = record { values = tally.values; total = n; least = end_low; greatest = end_high } in s) sum)

-- ---- the chosen values

-- the values at the positions that a mask chooses are those of the rows that it chooses
pub chosen-map : (mask : List Bool) (g : Row → Value) (rows : List Row) → code.chosen mask (map g rows) ≡ map g (code.chosen mask rows)
chosen-map [] g rows = refl
chosen-map (here ∷ mask) g [] = refl
chosen-map (true ∷ mask) g (row ∷ rows) = ap (λ (l : List Value). g row ∷ l) (chosen-map mask g rows)
chosen-map (false ∷ mask) g (row ∷ rows) = chosen-map mask g rows

-- the rows at the positions that a condition chooses are those that it keeps
chosen-kept : (p : Row → Bool) (rows : List Row) → code.chosen (map p rows) rows ≡ filter p rows
chosen-kept p [] = refl
chosen-kept p (row ∷ rows) = ap (λ (l : List Row). if p row then row ∷ l else l) (chosen-kept p rows)

-- as many rows are chosen as positions
count-chosen : (mask : List Bool) (rows : List Row) → length mask ≡ length rows → count_by (λ chosen. chosen) mask ≡ length (code.chosen mask rows)
count-chosen [] rows long = refl
count-chosen (here ∷ mask) [] long = absurd (omega (arith, long))
count-chosen (here ∷ mask) (row ∷ rows) long =
    sum_by-cons (λ (chosen : Bool). cond chosen 1 0) here mask ∙ by here (count-chosen mask rows (omega (arith, long)))
  where
    by : (b : Bool) → count_by (λ chosen. chosen) mask ≡ length (code.chosen mask rows) →
        cond b 1 0 + count_by (λ chosen. chosen) mask ≡ length (if b then row ∷ code.chosen mask rows else code.chosen mask rows)
    by true e = omega (arith, e)
    by false e = omega (arith, e)

-- ---- one group

-- all rows are members of the group of the empty key
all-members : (rows : List Row) → members [] rows [] ≡ rows
all-members [] = refl
all-members (row ∷ rows) = ap (λ (l : List Row). row ∷ l) (all-members rows)

-- two functions that agree on each element
pub map-same : {X Y : Type 0} (f g : X → Y) (xs : List X) → ((x : X) → f x ≡ g x) → map f xs ≡ map g xs
map-same f g [] same = refl
map-same f g (x ∷ xs) same = ap (λ y. y ∷ map f xs) (same x) ∙ ap (λ l. g x ∷ l) (map-same f g xs same)

-- the group of the empty key, with what all kept rows give, is their one group
one-group : (bound : Bound) (rows : List Numbered) (n : ℕ) (found : List sums.SumsOf) → TakesTogether bound →
    with_sums n found ≡ tallied (asked_in (wanted bound)) (kept_values bound rows) → AreGroupsOf bound rows (([], with_sums n found) ∷ [])
one-group bound rows n found together is = record {
  tallies = (
    is
        ∙ sym (ap (λ cs. tallied (asked_in (wanted bound)) (members cs (kept_values bound rows) [])) together.whole
        ∙ ap (tallied (asked_in (wanted bound))) (all-members (kept_values bound rows))),
    tt,
  );
  keys = λ key. ap (λ cs. is_among key (keys_of cs (kept_values bound rows))) (sym together.whole);
}

-- what rows give that a mask chooses, where each column was summed over the chosen values
mask-tallied : (asked : List Asked) (spots : List Bool) (held : List Row) (n : ℕ) (found : List sums.SumsOf) → length spots ≡ length held →
    n ≡ count_by (λ chosen. chosen) spots → found ≡ map (λ a. sums.sums_of a (code.chosen spots (values_in a.column held))) asked →
    with_sums n found ≡ tallied asked (code.chosen spots held)
mask-tallied asked spots held n found long counted summed =
    ap (λ k. with_sums k found) (counted ∙ count-chosen spots held long)
    ∙ ap (λ l. with_sums (length (code.chosen spots held)) l)
    (summed
    ∙ map-same (λ a. sums.sums_of a (code.chosen spots (values_in a.column held)))
    (λ a. sums.sums_of a (sums.column_of a.column (code.chosen spots held))) asked
    (λ a. ap (sums.sums_of a) (chosen-map spots (λ (r : Row). get_or r a.column Null) held)))

-- the same where a condition chooses them
pub chosen-tallied : (p : Row → Bool) (asked : List Asked) (spots : List Bool) (held : List Row) (n : ℕ) (found : List sums.SumsOf) →
    spots ≡ map p held → n ≡ count_by (λ chosen. chosen) spots →
    found ≡ map (λ a. sums.sums_of a (code.chosen spots (values_in a.column held))) asked → with_sums n found ≡ tallied asked (filter p held)
chosen-tallied p asked spots held n found is counted summed =
    mask-tallied asked spots held n found (ap length is ∙ length-map held p) counted summed
    ∙ ap (tallied asked) (ap (λ (m : List Bool). code.chosen m held) is ∙ chosen-kept p held)

-- ---- bounds

-- a number whose size is not above a bound lies between it and its negative
within-size : (most : ℕ) (z : ℤ) → unsigned_abs z ≤ most → (neg_ℤ (pos most) ≤ℤ z) × (z ≤ℤ pos most)
within-size most z below = (omega (arith, ints, below), omega (arith, ints, below))

-- a total whose size is not above so many times 2^63
pub is-within : (values again size : ℕ) (total same : ℤ) → size ≤ again * 9223372036854775808 → again ≡ values → same ≡ total → size ≡ unsigned_abs same →
    sums.IsWithin values total
is-within values again size total same below is then_is sized =
    let both = within-size (values * 2 ^ 63) total (omega (arith, below, is, sized, ap unsigned_abs then_is)) in
    record { low = both.0; high = both.1 }

-- ---- the columns of a unit

-- a unit has so many columns
pub columns-many : {X : Type 0} (f : X → List Value) (xs : List X) (content : Content) → map f xs ≡ columns_of content → length xs ≡ content.columns
columns-many f xs content is =
    sym (length-map xs f)
    ∙ (ap length is ∙ length-map-range_with_len (λ column. values_in column (present_rows content.rows)) 0 content.columns)

-- each has a value of each row that is present
pub column-long : (column : ℕ) (rows : List (Option Row)) (vs : List Value) (spots : List Bool) → vs ≡ values_in column (present_rows rows) →
    length spots ≡ count_present rows → length vs ≡ length spots
column-long column rows vs spots is long =
    ap length is ∙ (length-map (present_rows rows) (λ (row : Row). get_or row column Null) ∙ (sym (count-present rows) ∙ sym long))

-- ---- what the calls give

-- the group that was pushed is the one group
pub pushed-group : (bound : Bound) (rows : List Numbered) (n : ℕ) (key : List Value) (found : List sums.SumsOf)
    (groups : List (List Value × Tallied)) → TakesTogether bound → key ≡ [] → groups ≡ (key, with_sums n found) ∷ [] →
    with_sums n found ≡ tallied (asked_in (wanted bound)) (kept_values bound rows) → AreGroupsOf bound rows groups
pushed-group bound rows n key found groups together empty made is =
    subst (AreGroupsOf bound rows)
    (sym (made ∙ ap (λ k. let g : List Value × Tallied = (k, with_sums n found) in g ∷ []) empty)) (one-group bound rows n found together is)

-- what the chosen rows of a unit give, of rows of which a query keeps the same
pub unit-tallied : (bound : Bound) (content : Content) (spots : List Bool) (rows : List Numbered) (n : ℕ) (asked : List Asked)
    (found : List sums.SumsOf) → length spots ≡ count_present content.rows →
    kept_values bound rows ≡ code.chosen spots (present_rows content.rows) →
    n ≡ count_by (λ chosen. chosen) spots → asked ≡ asked_in (wanted bound) →
    found ≡ map (λ a. sums.sums_of a (code.chosen spots (values_in a.column (present_rows content.rows)))) asked →
    with_sums n found ≡ tallied (asked_in (wanted bound)) (kept_values bound rows)
unit-tallied bound content spots rows n asked found long same counted asks summed =
    mask-tallied asked spots (present_rows content.rows) n found (long ∙ count-present content.rows) counted summed
    ∙ (ap (λ qs. tallied qs (code.chosen spots (present_rows content.rows))) asks ∙ ap (tallied (asked_in (wanted bound))) (sym same))
