-- The counts of groups, column by column.
use Rattle.std.specs.Prelude.{◌≡◌, ℕ, List, length, map}
use Rattle.std.specs.List.{AllByRecursion, range_with_len}
use Rattle.std.specs.FinMap as map_of
use Rattle.im_values.specs.declared.content.Content.{Content as Value}
use Rattle.im_syntax.specs.declared.bound.Bound.{Bound}
use Rattle.im_syntax.specs.BoundFits.{BoundFits}
use Rattle.im_group.specs.declared.counted.Counted.{Counted}
use Rattle.im_group.specs.Sums.{SumsOf, column_of, present, total, least, greatest}
use Rattle.im_group.specs.Tallies.{Tallied}
use Rattle.im_group.specs.Partials.{Numbered}
use Rattle.im_group.specs.MadeGroups.{kept_values}
use Rattle.im_group.specs.Answers.{rows_by_key}

-- the counts of the values of a column: how many are not NULL, what the numbers among them add up to, and the least and the
-- greatest, NULL where there is none
abbrev pub counts_of : List Value → SumsOf
counts_of vs = record { values = length (present vs); total = total vs; least = least vs; greatest = greatest vs }

-- the number of rows, and the counts of each of the first columns
abbrev pub counts_of_rows : ℕ → List (List Value) → Tallied
counts_of_rows width rows = record { rows = length rows; sums = map (λ column. counts_of (column_of column rows)) (range_with_len 0 width) }

-- the counts of each group of the rows that a query keeps, with its key, in the order of the keys, NULL last
abbrev pub counts : Bound → ℕ → List Numbered → List (List Value × Tallied)
counts bound width rows = map (λ g. (g.0, counts_of_rows width g.1)) (map_of.entries (rows_by_key bound.groups (kept_values bound rows)))

-- the counts of a group as they are handed over
abbrev pub counted_of : Counted → List Value × Tallied
counted_of c = (c.key.items, record { rows = c.rows; sums = c.sums.items })

abbrev pub counts_in : List Counted → List (List Value × Tallied)
counts_in cs = map counted_of cs

-- these are the counts of rows of a table of so many columns, of which the query may be asked
pub record AreCountsOf (bound : Bound) (rows : List Numbered) (found : List (List Value × Tallied)) : Type 0 where
  pub width : ℕ
  pub wide : AllByRecursion (λ r. length r.1 ≡ width) rows
  pub fits : AllByRecursion (λ r. BoundFits r.1 bound) rows
  pub are : found ≡ counts bound width rows
