-- Rows counted by the values of a column without NULL.
use Rattle.std.proofs.Common.{◌≡◌, ℕ, ◌+◌, ◌<◌, pos, Bool, true, false, if◌then◌else◌, List, [], ◌∷◌, None, length, map, get_or, count_by, refl, sym, ap, ◌∙◌, arith}
use Rattle.std.specs.Prelude.{cond, not}
use Rattle.std.specs.Ordering.{is_eq}
use Rattle.std.proofs.lemmas.List.{length-map, get_or-map}
use Rattle.std.proofs.lemmas.List.Sums.{sum_by-cons}
use Rattle.im_values.specs.declared.content.Content.{Content as Value}
use Rattle.im_values.specs.declared.content.Content.TheVariants.{Null}
use Rattle.im_values.specs.Order.{is_null, order}
use Rattle.im_codes.specs.Dictionary.{present}
use Rattle.im_codepred.specs.declared.tally.Tally.{Tally}
use Rattle.im_codepred.specs.Tallies.{AreCounts, AreTallies, beside, chosen, chosen_with, count_of}
use Rattle.im_group.specs.declared.asked.Asked.{Asked}
use Rattle.im_history.specs.Rows.{Row}
use Rattle.im_unit.specs.Holding.{values_in}
use Rattle.im_scan.specs.inner.Summed.{wants_ends}
use Rattle.im_scan.specs.inner.ByCode.{AreAllTallies}
use Rattle.im_scan.proofs.CodedLemmas.{count-cons}

null-cons : (x : Value) (xs : List Value) → count_by is_null (x ∷ xs) ≡ cond (is_null x) 1 0 + count_by is_null xs
null-cons x xs = sum_by-cons (λ (v : Value). cond (is_null v) 1 0) x xs

first-some : (b : Bool) (n : ℕ) → cond b 1 0 + n ≡ 0 → b ≡ false
first-some true n none = absurd (omega (arith, none))
first-some false n none = refl

-- as many values stand beside a key as rows have it
counted : (value : Value) (mask : List Bool) (keys column : List Value) → length keys ≡ length column → count_by is_null column ≡ 0 →
    length (present (chosen_with value mask keys column)) ≡ count_of value (chosen mask keys)
counted value [] keys column long none = refl
counted value (b ∷ mask) [] [] long none = refl
counted value (b ∷ mask) [] (x ∷ column) long none = absurd (omega (arith, long))
counted value (b ∷ mask) (k ∷ keys) [] long none = absurd (omega (arith, long))
counted value (false ∷ mask) (k ∷ keys) (x ∷ column) long none =
    counted value mask keys column (omega (arith, long)) (omega (arith, null-cons x column, none))
counted value (true ∷ mask) (k ∷ keys) (x ∷ column) long none =
    let some : is_null x ≡ false = first-some (is_null x) (count_by is_null column) (sym (null-cons x column) ∙ none) in
    by (is_eq (order k value)) some (counted value mask keys column (omega (arith, long)) (omega (arith, null-cons x column, none)))
    ∙ sym (count-cons value k (chosen mask keys))
  where
    others : List Value
    others = beside value (chosen mask keys) (chosen mask column)

    by : (b : Bool) → is_null x ≡ false → length (present others) ≡ count_of value (chosen mask keys) →
        length (present (if b then x ∷ others else others)) ≡ cond b 1 0 + count_of value (chosen mask keys)
    by true some e = ap (λ (n : Bool). length (if not n then x ∷ present others else present others)) some ∙ omega (arith, e)
    by false some e = omega (arith, e)

-- the values of the tallies are the counts
pub counts-of-values : (ends : Bool) (mask : List Bool) (keys column values : List Value) (tallies : List Tally) → AreTallies ends mask keys column values tallies →
    length keys ≡ length column → count_by is_null column ≡ 0 → AreCounts (chosen mask keys) values (map (λ tally. tally.values) tallies)
counts-of-values ends mask keys column values tallies are long none =
    let d : Tally = record { values = 0; sum = pos 0; least = None; greatest = None } in
    record {
      size = length-map tallies (λ tally. tally.values) ∙ are.size;
      each = λ code inside.
          get_or-map (λ (tally : Tally). tally.values) tallies code d 0 (omega (arith, are.size, inside))
          ∙ ((are.each code d inside).values ∙ counted (get_or values code Null) mask keys column long none);
    }

-- the tallies of the first asked column
pub first-tallies : {X : Type 0} (f : X → List Tally) (mask : List Bool) (keys : List Value) (held : List Row) (values : List Value)
    (asked : List Asked) (all : List X) (a : Asked) (x : X) → AreAllTallies mask keys held values asked (map f all) → 0 < length asked →
    0 < length all → AreTallies (wants_ends (get_or asked 0 a)) mask keys (values_in (get_or asked 0 a).column held) values (f (get_or all 0 x))
first-tallies f mask keys held values [] all a x are some many = absurd (omega (arith, some))
first-tallies f mask keys held values (b ∷ asked) [] a x are some many = absurd (omega (arith, many))
first-tallies f mask keys held values (b ∷ asked) (t ∷ all) a x are some many = are.0
