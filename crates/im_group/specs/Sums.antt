-- What is kept of the values of one column, and how an aggregate is read off it.
use Rattle.std.specs.Prelude.{ℕ, ◌+◌, ◌*◌, ◌^◌, ◌==◌, Bool, true, false, not, List, length, map, filter, fold, ℤ, pos, neg_ℤ, ◌≤ℤ◌, ◌+ℤ◌, if◌then◌else◌}
use Rattle.std.specs.Ordering.{is_lt}
use Rattle.im_values.specs.declared.content.Content.{Content as Value}
use Rattle.im_values.specs.declared.content.Content.TheVariants.{Int, Text, Null}
use Rattle.im_values.specs.Order.{order, is_null}
use Rattle.im_syntax.specs.declared.item.Function.{Function}
use Rattle.im_syntax.specs.declared.item.Function.TheVariants as function
use Rattle.im_syntax.specs.BoundFits.{value_at}
use Rattle.im_group.specs.declared.asked.Asked.{Asked}
use Rattle.im_group.specs.declared.asked.End.{End}
use Rattle.im_group.specs.declared.asked.End.TheVariants as end
use Rattle.im_group.specs.declared.cell.Cell.{Cell}
use Rattle.im_group.specs.declared.cell.Cell.TheVariants as cell
use Rattle.im_group.specs.Cells.{cell_of}

-- the values of rows in a column
abbrev pub column_of : ℕ → List (List Value) → List Value
column_of column rows = map (λ row. value_at row column) rows

-- those that are not NULL
abbrev pub present : List Value → List Value
present vs = filter (λ v. not (is_null v)) vs

-- the number of a value
abbrev pub number : Value → ℤ
number (Int n) = n
number (Text t) = pos 0
number Null = pos 0

abbrev pub total : List Value → ℤ
total vs = fold (λ sum v. sum +ℤ number v) (pos 0) vs

-- the lesser of two values, and the greater, where NULL gives way to the other
abbrev pub lesser : Value → Value → Value
lesser a b = if is_lt (order b a) then b else a

abbrev pub greater : Value → Value → Value
greater a b = if is_null b then a else (if is_null a then b else (if is_lt (order a b) then b else a))

abbrev pub least : List Value → Value
least vs = fold lesser Null vs

abbrev pub greatest : List Value → Value
greatest vs = fold greater Null vs

-- what an aggregate answers of the values of a column: COUNT, MIN and MAX pass over NULL, and a sum over no value is NULL
abbrev pub aggregate : Function → List Value → Cell
aggregate function.Count vs = cell.Int (pos (length (present vs)))
aggregate function.Sum vs = if length (present vs) == 0 then cell.Null else cell.Int (total vs)
aggregate function.Min vs = cell_of (least vs)
aggregate function.Max vs = cell_of (greatest vs)

-- ---- one summary of a column

-- how many values there are, what they add up to, and the least and the greatest, NULL where there is none or none is asked for
pub record SumsOf : Type 0 where
  pub values : ℕ
  pub total : ℤ
  pub least : Value
  pub greatest : Value

-- so many numbers of 64 bits add up to no more
pub record IsWithin (values : ℕ) (total : ℤ) : Type 0 where
  pub low : neg_ℤ (pos (values * 2 ^ 63)) ≤ℤ total
  pub high : total ≤ℤ pos (values * 2 ^ 63)

-- the end of the values that an aggregate reads
abbrev pub reads : End → Function → Bool
reads end.Least function.Min = true
reads end.Greatest function.Max = true
reads e f = false

-- the summary of the values of a column
abbrev pub sums_of : Asked → List Value → SumsOf
sums_of asked vs = record {
  values = length (present vs);
  total = total vs;
  least = if asked.least then least vs else Null;
  greatest = if asked.greatest then greatest vs else Null;
}

-- the summary of no value
abbrev pub no_sums : SumsOf
no_sums = record { values = 0; total = pos 0; least = Null; greatest = Null }

-- a sum over no value is NULL
abbrev pub sum_cell : SumsOf → Cell
sum_cell s = if s.values == 0 then cell.Null else cell.Int s.total

-- an aggregate is read off the summary
abbrev pub reading : Function → SumsOf → Cell
reading function.Count s = cell.Int (pos s.values)
reading function.Sum s = sum_cell s
reading function.Min s = cell_of s.least
reading function.Max s = cell_of s.greatest

-- ---- one value more, and two summaries in one

-- one value more is counted and added up; NULL is not
abbrev pub added : SumsOf → Value → SumsOf
added s (Int n) = record { values = s.values + 1; total = s.total +ℤ n; least = s.least; greatest = s.greatest }
added s (Text t) = record { values = s.values + 1; total = s.total; least = s.least; greatest = s.greatest }
added s Null = s

-- and compared, where that is asked for
abbrev pub compared : Asked → SumsOf → Value → SumsOf
compared asked s v = record {
  values = s.values;
  total = s.total;
  least = if asked.least then lesser s.least v else s.least;
  greatest = if asked.greatest then greater s.greatest v else s.greatest;
}

abbrev pub taken : Asked → SumsOf → Value → SumsOf
taken asked s v = compared asked (added s v) v

abbrev pub joined : SumsOf → SumsOf → SumsOf
joined s t = record {
  values = s.values + t.values;
  total = s.total +ℤ t.total;
  least = lesser s.least t.least;
  greatest = greater s.greatest t.greatest;
}
