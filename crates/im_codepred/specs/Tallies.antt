-- The values at the chosen positions of a column, and what they come to.
use Rattle.std.specs.Prelude.{◌≡◌, ◌<◌, ◌*◌, ◌^◌, count_by, slice_index, slice_index_or, ℕ, Bool, true, List, [], ◌∷◌, Option, Some, None, length, fold, option_copied, ℤ, pos, neg_ℤ, ◌+ℤ◌, ◌≤ℤ◌, if◌then◌else◌}
use Rattle.std.specs.Ordering.{is_lt, is_eq}
use Rattle.im_values.specs.declared.content.Content.{Content as Value}
use Rattle.im_values.specs.declared.content.Content.TheVariants.{Int, Text, Null}
use Rattle.im_values.specs.Order.{order, is_null}
use Rattle.im_codes.specs.Dictionary.{present}
use Rattle.im_codepred.specs.declared.tally.Tally.{Tally}

-- the elements of a list at the positions that a mask chooses
abbrev pub chosen : {A : Type 0} → List Bool → List A → List A
chosen [] xs = []
chosen (here ∷ mask) [] = []
chosen (here ∷ mask) (x ∷ xs) = if here then x ∷ chosen mask xs else chosen mask xs

-- the number of a value
abbrev pub number : Value → ℤ
number (Int n) = n
number (Text t) = pos 0
number Null = pos 0

-- the sum of the numbers among values
abbrev pub total : List Value → ℤ
total vs = fold (λ sum v. sum +ℤ number v) (pos 0) vs

-- the lesser of two values, and the greater, where NULL gives way to the other
abbrev pub lesser : Value → Value → Value
lesser a b = if is_lt (order b a) then b else a

abbrev pub greater : Value → Value → Value
greater a b = if is_null b then a else (if is_null a then b else (if is_lt (order a b) then b else a))

-- the least value, and the greatest: NULL where each is NULL
abbrev pub least : List Value → Value
least vs = fold lesser Null vs

abbrev pub greatest : List Value → Value
greatest vs = fold greater Null vs

-- a value that is there: NULL is none
abbrev pub some_of : Value → Option Value
some_of (Int n) = Some (Int n)
some_of (Text t) = Some (Text t)
some_of Null = None

-- so many numbers of 64 bits add up to no more
pub record IsWithin (values : ℕ) (sum : ℤ) : Type 0 where
  pub low : neg_ℤ (pos (values * 2 ^ 63)) ≤ℤ sum
  pub high : sum ≤ℤ pos (values * 2 ^ 63)

-- what these values come to: how many are not NULL, their sum, which is one of as many numbers of 64 bits, and the least and the
-- greatest, or none
pub record IsTallyOf (vs : List Value) (tally : Tally) : Type 0 where
  pub values : tally.values ≡ length (present vs)
  pub sum : tally.sum ≡ total vs
  pub least : option_copied tally.least ≡ some_of (least vs)
  pub greatest : option_copied tally.greatest ≡ some_of (greatest vs)
  pub within : IsWithin tally.values tally.sum

-- the same, with the least and the greatest only where the ends are wanted
pub record IsTallyFor (ends : Bool) (vs : List Value) (tally : Tally) : Type 0 where
  pub values : tally.values ≡ length (present vs)
  pub sum : tally.sum ≡ total vs
  pub least : ends ≡ true → option_copied tally.least ≡ some_of (least vs)
  pub greatest : ends ≡ true → option_copied tally.greatest ≡ some_of (greatest vs)
  pub within : IsWithin tally.values tally.sum

-- the same of the chosen values of a column, none of which is NULL
pub record IsTallyOfAll (mask : List Bool) (column : List Value) (all : Tally) : Type 0 where
  pub tally : IsTallyOf (chosen mask column) all
  pub values : all.values ≡ count_by (λ chosen. chosen) mask

-- how many of these values are one
abbrev pub count_of : Value → List Value → ℕ
count_of value vs = count_by (λ v. is_eq (order v value)) vs

-- of each of some values, how many of these are it
pub record AreCounts (vs values : List Value) (counts : List ℕ) : Type 0 where
  pub size : length counts ≡ length values
  pub each : (code : ℕ) → code < length values → slice_index counts code ≡ count_of (slice_index_or values code Null) vs

-- of elements that stand beside values, those beside this one
abbrev pub beside : {A : Type 0} → Value → List Value → List A → List A
beside value [] xs = []
beside value (v ∷ vs) [] = []
beside value (v ∷ vs) (x ∷ xs) = if is_eq (order v value) then x ∷ beside value vs xs else beside value vs xs

-- the values of a column at the chosen positions at which the keys have this value
abbrev pub chosen_with : Value → List Bool → List Value → List Value → List Value
chosen_with key mask keys column = beside key (chosen mask keys) (chosen mask column)

-- of each of some values, what the values of a column come to where the keys have it, with the ends where they are wanted
pub record AreTallies (ends : Bool) (mask : List Bool) (keys column values : List Value) (tallies : List Tally) : Type 0 where
  pub size : length tallies ≡ length values
  pub each : (code : ℕ) (d : Tally) → code < length values →
      IsTallyFor ends (chosen_with (slice_index_or values code Null) mask keys column) (slice_index_or tallies code d)
