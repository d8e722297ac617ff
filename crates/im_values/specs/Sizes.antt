-- What the values of a column count for in bytes, in each form that it may be kept in.
use Rattle.std.specs.Prelude.{ℕ, zero, suc, ◌+◌, ◌*◌, ◌/◌, ◌^◌, ◌==◌, ◌&&◌, nat_le, nat_lt, min, List, [], ◌∷◌, length, sum_by, if◌then◌else◌}
use Rattle.std.specs.Int.{div_ceil}
use Rattle.std.specs.Ordering.{is_eq}
use Rattle.std.specs.BTreeSet.{insert_key}
use Rattle.im_values.specs.declared.content.Content.{Content as Value}
use Rattle.im_values.specs.declared.content.Content.TheVariants.{Int, Text, Null}
use Rattle.im_values.specs.Order.{order}

-- the bytes that a value counts for
abbrev pub value_bytes : Value → ℕ
value_bytes (Int n) = 9
value_bytes (Text t) = 3 + length t
value_bytes Null = 1

-- the dictionary of a list: each value that stands there and is not NULL, once, in the order of values
abbrev pub dictionary : List Value → List Value
dictionary [] = []
dictionary (Int n ∷ values) = insert_key order (dictionary values) (Int n)
dictionary (Text t ∷ values) = insert_key order (dictionary values) (Text t)
dictionary (Null ∷ values) = dictionary values

-- how many whole codes of a width one word of 64 bits holds
abbrev pub codes_per_word : ℕ → ℕ
codes_per_word width = 64 / width

-- how many words so many codes fill, the last perhaps in part: none where a code has no bits
abbrev pub words_for : ℕ → ℕ → ℕ
words_for n width = if width == 0 then 0 else div_ceil n (codes_per_word width)

-- the least width from one on, among so many more, of which there are more codes than this number
unfoldable pub width_from : ℕ → ℕ → ℕ → ℕ
width_from zero width greatest = width
width_from (suc more) width greatest = if nat_lt greatest (2 ^ width) then width else width_from more (width + 1) greatest

-- the least width of which there are more codes than this number, which is below 2^32: the width of the codes from 0 up to it
abbrev pub width_for : ℕ → ℕ
width_for greatest = width_from 32 0 greatest

-- how many runs of equal values there are behind a value: each value that differs from the one before begins one
abbrev pub run_count_after : Value → List Value → ℕ
run_count_after before [] = 0
run_count_after before (value ∷ values) = (if is_eq (order value before) then 0 else 1) + run_count_after value values

-- how many runs of equal values a list has, each as long as it can be
abbrev pub run_count : List Value → ℕ
run_count [] = 0
run_count (value ∷ values) = 1 + run_count_after value values

-- the bytes of a list of values, one beside another
unfoldable pub plain_bytes : List Value → ℕ
plain_bytes values = sum_by value_bytes values

-- the bytes of a dictionary and of a code for each value
unfoldable pub coded_bytes : List Value → ℕ
coded_bytes values = sum_by value_bytes (dictionary values) + 8 * words_for (length values) (width_for (length (dictionary values)))

-- the bytes of a dictionary and of the runs of equal values
unfoldable pub runs_bytes : List Value → ℕ
runs_bytes values = sum_by value_bytes (dictionary values) + 8 * run_count values

-- the three forms
pub data Shape : Type 0 where
  Plain : Shape
  Coded : Shape
  Runs : Shape

-- the form of the least of three sizes; where some are the least together, the one named first
abbrev pub least_shape : ℕ → ℕ → ℕ → Shape
least_shape plain coded runs = if nat_le plain coded && nat_le plain runs then Plain else (if nat_le coded runs then Coded else Runs)

-- the form that a column of these values is kept in: the one of the least bytes
abbrev pub shape_of : List Value → Shape
shape_of values = least_shape (plain_bytes values) (coded_bytes values) (runs_bytes values)

-- the bytes that a column of these values counts for
abbrev pub column_bytes : List Value → ℕ
column_bytes values = min (plain_bytes values) (min (coded_bytes values) (runs_bytes values))
