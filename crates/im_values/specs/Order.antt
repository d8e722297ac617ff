-- The order of values, and the comparisons of SQL.
use Rattle.std.specs.Prelude.{Bool, true, false, ◌||◌, if◌then◌else◌}
use Rattle.std.specs.declared.cmp.Ordering.{Ordering}
use Rattle.std.specs.declared.cmp.Ordering.TheVariants.{Less, Equal, Greater}
use Rattle.std.specs.Ordering.{nat_cmp, int_cmp, is_eq, is_ne, is_lt, is_le, is_gt, is_ge}
use Rattle.std.specs.Cmp.Lexicographic.{slice_cmp}
use Rattle.im_values.specs.declared.comparison.Cmp.{Cmp}
use Rattle.im_values.specs.declared.comparison.Cmp.TheVariants.{Eq, Ne, Lt, Le, Gt, Ge}
use Rattle.im_values.specs.declared.truth.Truth.{Truth}
use Rattle.im_values.specs.declared.truth.Truth.TheVariants.{Yes, No, Unknown}
use Rattle.im_values.specs.declared.content.Content.{Content as Value}
use Rattle.im_values.specs.declared.content.Content.TheVariants.{Int, Text, Null}

-- numbers by size, texts by bytes, numbers before texts, NULL last
abbrev pub order : Value → Value → Ordering
order (Int a) (Int b) = int_cmp a b
order (Int a) (Text b) = Less
order (Int a) Null = Less
order (Text a) (Int b) = Greater
order (Text a) (Text b) = slice_cmp nat_cmp a b
order (Text a) Null = Less
order Null (Int b) = Greater
order Null (Text b) = Greater
order Null Null = Equal

-- the value is NULL
abbrev pub is_null : Value → Bool
is_null (Int a) = false
is_null (Text a) = false
is_null Null = true

-- the comparison holds of two values that stand so to each other
abbrev pub admits : Cmp → Ordering → Bool
admits Eq o = is_eq o
admits Ne o = is_ne o
admits Lt o = is_lt o
admits Le o = is_le o
admits Gt o = is_gt o
admits Ge o = is_ge o

-- Unknown where a side is NULL, else whether the comparison holds by the order
abbrev pub compare : Value → Cmp → Value → Truth
compare a cmp b = if is_null a || is_null b then Unknown else (if admits cmp (order a b) then Yes else No)
