-- The sum of the values of a column.
use Rattle.std.specs.Prelude.{ℤ, pos, ◌+ℤ◌, List, fold}
use Rattle.im_values.specs.declared.content.Content.{Content as Value}
use Rattle.im_values.specs.declared.content.Content.TheVariants.{Int, Text, Null}

-- a sum with one value more: NULL and a text add nothing
abbrev pub added : ℤ → Value → ℤ
added total (Int n) = total +ℤ n
added total (Text t) = total
added total Null = total

-- the exact sum of the numbers among the values
abbrev pub sum_of : List Value → ℤ
sum_of values = fold added (pos 0) values
