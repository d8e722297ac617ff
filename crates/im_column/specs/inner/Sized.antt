-- What a column keeps, and what leads to it.
use Rattle.std.specs.Prelude.{◌≡◌, ℕ, ℤ, pos, neg_ℤ, ◌*ℤ◌, ◌*◌, ◌-◌, ◌^◌, ◌<◌, ◌≤ℤ◌, false, List, All, count_by, length, slice_index_or}
use Rattle.std.specs.List.Sorted.{IsStrictlySortedBy}
use Rattle.std.specs.declared.cmp.Ordering.TheVariants.{Less}
use Rattle.im_values.specs.declared.content.Content.{Content as Value}
use Rattle.im_values.specs.declared.content.Content.TheVariants.{Int, Text, Null}
use Rattle.im_values.specs.Order.{order, is_null}
use Rattle.im_values.specs.Sizes.{Plain, Coded, Runs, shape_of, width_for, column_bytes, plain_bytes, coded_bytes, runs_bytes}
use Rattle.im_codes.specs.Dictionary.{coded, values_at}
use Rattle.im_column.specs.Forms.{AreKeptFor}
use Rattle.im_column.specs.Summaries.{sum_of}
use Rattle.im_index.specs.Bounds.{bounds_of}
use Rattle.im_index.specs.declared.bounds.Bounds.{Bounds}
use Rattle.im_column.specs.declared.form.Kept.{Kept}
use Rattle.im_column.specs.declared.form.Kept.TheVariants as kept

-- the values that a form stands for
abbrev pub values_of : Kept → List Value
values_of (kept.Plain values) = values.items
values_of (kept.Coded dict bits) = values_at (coded dict) bits.codes
values_of (kept.Runs dict runs) = values_at (coded dict) runs

-- the form is the one that these values are kept in
abbrev pub IsKeptFor : List Value → Kept → Type 0
IsKeptFor values (kept.Plain plain) = (shape_of values ≡ Plain) × (plain.items ≡ values)
IsKeptFor values (kept.Coded dict bits) = (shape_of values ≡ Coded) × AreKeptFor values dict bits.codes × (bits.width ≡ width_for (length dict))
IsKeptFor values (kept.Runs dict runs) = (shape_of values ≡ Runs) × AreKeptFor values dict runs

-- the form that these values are kept in, and its bytes
pub record IsCountedFor (values : List Value) (form : Kept) (bytes : ℕ) : Type 0 where
  pub stands : values_of form ≡ values
  pub kept : IsKeptFor values form
  pub least : bytes ≡ column_bytes values

-- the sizes of the three forms of values
pub record AreSizes (values : List Value) (p c r : ℕ) : Type 0 where
  pub plain : p ≡ plain_bytes values
  pub coded : c ≡ coded_bytes values
  pub runs : r ≡ runs_bytes values

-- what is kept beside it
pub record IsSummedFor (values : List Value) (bytes : ℕ) (bounds : Bounds) (sum : ℤ) : Type 0 where
  pub is_bytes : bytes ≡ column_bytes values
  pub is_bounds : bounds ≡ bounds_of values
  pub is_sum : sum ≡ sum_of values

-- what one pass over values finds
pub record IsSummary (values : List Value) (nulls : ℕ) (sum : ℤ) (bytes : ℕ) : Type 0 where
  pub is_nulls : nulls ≡ count_by is_null values
  pub is_sum : sum ≡ sum_of values
  pub is_bytes : bytes ≡ plain_bytes values

-- so many numbers of 64 bits add up to no more
pub record IsWithin (count : ℕ) (total : ℤ) : Type 0 where
  pub low : neg_ℤ (pos (count * 2 ^ 63)) ≤ℤ total
  pub high : total ≤ℤ pos (count * 2 ^ 63)

-- each value is below the next, and none is NULL
pub record AreRising (values : List Value) : Type 0 where
  pub sorted : IsStrictlySortedBy order values
  pub some : All (λ value. is_null value ≡ false) values

-- a value is not NULL, and above the one before
pub record Follows (values : List Value) (i : ℕ) : Type 0 where
  pub some : (d : Value) → is_null (slice_index_or values i d) ≡ false
  pub above : 0 < i → (d : Value) → order (slice_index_or values (i - 1) d) (slice_index_or values i d) ≡ Less

-- the sum of a value that stands so many times
abbrev pub times_of : ℕ → Value → ℤ
times_of count (Int n) = pos count *ℤ n
times_of count (Text t) = pos 0
times_of count Null = pos 0
