-- Tallies while they are made.
use Rattle.std.specs.Borrow.{Bor}
use Rattle.std.specs.Prelude.{◌≡◌, option_copied, Bool, true, false, Option, Some, None, fold, ℕ, ◌+◌, ◌/◌, ◌%◌, ◌^◌, ◌<◌, ◌==◌, ◌&&◌, ◌||◌, List, [], ◌∷◌, length, max, nat_lt, slice_index, slice_index_or, slice_set, ℤ, pos, ◌+ℤ◌, ◌*ℤ◌, if◌then◌else◌}
use Rattle.im_values.specs.declared.content.Content.{Content as Value}
use Rattle.im_values.specs.declared.content.Content.TheVariants.{Null}
use Rattle.im_values.specs.Order.{is_null}
use Rattle.im_codes.specs.Dictionary.{coded, present}
use Rattle.im_codepred.specs.declared.tally.Tally.{Tally}
use Rattle.im_codepred.specs.Tallies.{IsWithin, number, total, lesser, greater, least, greatest, some_of}

-- the elements of a list at the bits of a word that are set, from the lowest on
abbrev pub at_bits : {A : Type 0} → ℕ → List A → List A
at_bits word [] = []
at_bits word (x ∷ xs) = if word % 2 == 1 then x ∷ at_bits (word / 2) xs else at_bits (word / 2) xs

-- what is found among codes: the least and the greatest are 0 where each code is that of NULL
pub record FoundOf : Type 0 where
  pub values : ℕ
  pub sum : ℤ
  pub least : ℕ
  pub greatest : ℕ

-- nothing is found
abbrev pub nothing : FoundOf
nothing = record { values = 0; sum = pos 0; least = 0; greatest = 0 }

-- the number that a code stands for
abbrev pub number_at : List Value → ℕ → ℤ
number_at dict code = number (slice_index_or (coded dict) code Null)

-- the lesser of a code and another, where 0 gives way to the other
abbrev pub lesser_code : ℕ → ℕ → ℕ
lesser_code least code = if least == 0 || nat_lt code least then code else least

-- one code more is found: that of NULL is passed over
abbrev pub taken : List Value → FoundOf → ℕ → FoundOf
taken dict found code = if code == 0 then found else record {
  values = found.values + 1;
  sum = found.sum +ℤ number_at dict code;
  least = lesser_code found.least code;
  greatest = max found.greatest code;
}

-- the same, with the ends only where they are wanted
abbrev pub taken_for : Bool → List Value → FoundOf → ℕ → FoundOf
taken_for true dict found code = taken dict found code
taken_for false dict found code = if code == 0 then found else record found {
  values = found.values + 1;
  sum = found.sum +ℤ number_at dict code;
}

-- a number so many times
unfoldable pub times_of : ℕ → ℤ → ℤ
times_of count n = pos count *ℤ n

-- one code from 1 on is found so many times
abbrev pub with_run : List Value → FoundOf → ℕ → ℕ → FoundOf
with_run dict found code count = record {
  values = found.values + count;
  sum = found.sum +ℤ times_of count (number_at dict code);
  least = lesser_code found.least code;
  greatest = max found.greatest code;
}

-- one code is found so many times
abbrev pub taken_run : List Value → FoundOf → ℕ → ℕ → FoundOf
taken_run dict found code count = if nat_lt 0 count && nat_lt 0 code then with_run dict found code count else found

-- what values come to
pub record TotalsOf : Type 0 where
  pub values : ℕ
  pub sum : ℤ
  pub least : Value
  pub greatest : Value

abbrev pub totals : List Value → TotalsOf
totals vs = record { values = length (present vs); sum = total vs; least = least vs; greatest = greatest vs }

-- what no value comes to
abbrev pub no_totals : TotalsOf
no_totals = record { values = 0; sum = pos 0; least = Null; greatest = Null }

-- one value more
abbrev pub with_value : TotalsOf → Value → TotalsOf
with_value t v = record {
  values = t.values + (if is_null v then 0 else 1);
  sum = t.sum +ℤ number v;
  least = lesser t.least v;
  greatest = greater t.greatest v;
}

-- what is found among the codes of a dictionary, as values
abbrev pub totals_of : List Value → FoundOf → TotalsOf
totals_of dict found = record {
  values = found.values;
  sum = found.sum;
  least = slice_index_or (coded dict) found.least Null;
  greatest = slice_index_or (coded dict) found.greatest Null;
}

-- the ends that are found are codes of a dictionary
pub record IsInside (dict : List Value) (found : FoundOf) : Type 0 where
  pub least : found.least < length (coded dict)
  pub greatest : found.greatest < length (coded dict)

-- the elements at the bits that are left of a word, taken from here on, come to the whole
pub record IsLeft {A B : Type 0} (step : B → A → B) (xs : List A) (rest : ℕ) (now whole : B) : Type 0 where
  pub few : rest < 2 ^ length xs
  pub comes : fold step now (at_bits rest xs) ≡ whole

-- the value behind a reference, and NULL where there is none
abbrev pub value_or_null : Option (Bor Value) → Value
value_or_null None = Null
value_or_null (Some v) = v.now

-- a value that is lent is not NULL
abbrev pub IsSomeValue : Option (Bor Value) → Type 0
IsSomeValue None = Unit {0}
IsSomeValue (Some v) = is_null v.now ≡ false

-- a tally that is lent has these totals
pub record Shows (t : TotalsOf) (tally : Tally) : Type 0 where
  pub values : tally.values ≡ t.values
  pub sum : tally.sum ≡ t.sum
  pub least : option_copied tally.least ≡ some_of t.least
  pub greatest : option_copied tally.greatest ≡ some_of t.greatest
  pub within : IsWithin tally.values tally.sum

-- one code more is counted
abbrev pub one_more : List ℕ → ℕ → List ℕ
one_more counts code = slice_set counts code (slice_index counts code + 1)

-- keys, each with its value: NULL where there is none
abbrev pub keyed : List ℕ → List Value → List (ℕ × Value)
keyed [] vs = []
keyed (key ∷ keys) [] = (key, Null) ∷ keyed keys []
keyed (key ∷ keys) (v ∷ vs) = (key, v) ∷ keyed keys vs

-- one value more in the group of its key
abbrev pub with_pair : List TotalsOf → ℕ × Value → List TotalsOf
with_pair groups pair = slice_set groups pair.0 (with_value (slice_index_or groups pair.0 no_totals) pair.1)

-- one code more is found with its key
abbrev pub with_code : Bool → List Value → List FoundOf → ℕ × ℕ → List FoundOf
with_code ends dict founds pair = slice_set founds pair.0 (taken_for ends dict (slice_index_or founds pair.0 nothing) pair.1)

-- the ends that are found with each key are codes of a dictionary
abbrev pub AreInside : List Value → List FoundOf → Type 0
AreInside dict founds = (key : ℕ) → IsInside dict (slice_index_or founds key nothing)

-- tallies that are lent have these totals, each its own
pub record ShowEach (groups : List TotalsOf) (tallies : List Tally) : Type 0 where
  pub size : length tallies ≡ length groups
  pub each : (i : ℕ) (d : Tally) → i < length groups → Shows (slice_index_or groups i no_totals) (slice_index_or tallies i d)

-- the same, with the ends only where they are wanted
pub record ShowsFor (ends : Bool) (t : TotalsOf) (tally : Tally) : Type 0 where
  pub values : tally.values ≡ t.values
  pub sum : tally.sum ≡ t.sum
  pub least : ends ≡ true → option_copied tally.least ≡ some_of t.least
  pub greatest : ends ≡ true → option_copied tally.greatest ≡ some_of t.greatest
  pub within : IsWithin tally.values tally.sum

pub record ShowEachFor (ends : Bool) (groups : List TotalsOf) (tallies : List Tally) : Type 0 where
  pub size : length tallies ≡ length groups
  pub each : (i : ℕ) (d : Tally) → i < length groups → ShowsFor ends (slice_index_or groups i no_totals) (slice_index_or tallies i d)
