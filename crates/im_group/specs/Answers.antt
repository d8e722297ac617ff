-- The answer of a query.
use Rattle.std.specs.Prelude.{ℕ, pos, ◌+◌, ◌==◌, Bool, true, false, List, [], ◌∷◌, map, take, drop, get_or, length, if◌then◌else◌}
use Rattle.std.specs.Ordering.{is_gt, ordering_then}
use Rattle.std.specs.declared.cmp.Ordering.{Ordering}
use Rattle.std.specs.declared.cmp.Ordering.TheVariants.{Equal}
use Rattle.std.specs.FinMap as map_of
use Rattle.im_values.specs.declared.content.Content.{Content as Value}
use Rattle.im_values.specs.declared.content.Content.TheVariants.{Null}
use Rattle.im_syntax.specs.declared.item.ItemOf.{ItemOf}
use Rattle.im_syntax.specs.declared.item.ItemOf.TheVariants as item
use Rattle.im_syntax.specs.declared.bound.Key.{Key}
use Rattle.im_syntax.specs.declared.bound.Bound.{Bound}
use Rattle.im_syntax.specs.BoundFits.{value_at}
use Rattle.im_group.specs.declared.cell.Cell.{Cell}
use Rattle.im_group.specs.declared.cell.Cell.TheVariants as cell
use Rattle.im_group.specs.declared.asked.Asked.{Asked}
use Rattle.im_group.specs.Cells.{cell_of, cell_order}
use Rattle.im_group.specs.Sums.{column_of, aggregate, reading}
use Rattle.im_group.specs.Tallies.{Tallied, wanted, asked_in, sums_at}
use Rattle.im_group.specs.Partials.{Numbered, key_order, kept, members, keys_of, Groups, Parts}

-- ---- records

-- an item of one row; one row alone has no aggregates, and a query that is not grouped asks for none
abbrev pub row_cell : List Value → ItemOf ℕ → Cell
row_cell row (item.Column column) = cell_of (value_at row column)
row_cell row item.CountAll = cell.Null
row_cell row (item.Aggregate function column) = cell.Null

-- the value of a group in a column of GROUP BY; a grouped query asks for no other column
abbrev pub key_value : List ℕ → List Value → ℕ → Value
key_value [] vs column = Null
key_value (c ∷ cs) [] column = Null
key_value (c ∷ cs) (v ∷ vs) column = if c == column then v else key_value cs vs column

-- an item of a group, by the rows of the group
abbrev pub item_cell : List ℕ → List Value → List (List Value) → ItemOf ℕ → Cell
item_cell columns key rows (item.Column column) = cell_of (key_value columns key column)
item_cell columns key rows item.CountAll = cell.Int (pos (length rows))
item_cell columns key rows (item.Aggregate function column) = aggregate function (column_of column rows)

-- the rows of each group, by its key
abbrev pub rows_by_key : List ℕ → List (List Value) → map_of.FinMap key_order (List (List Value))
rows_by_key columns rows = map_of.from_entries (map (λ key. (key, members columns rows key)) (keys_of columns rows))

-- A record for each group in the order of their keys, or for each row: what the list asks for, and then the keys of ORDER BY.
abbrev pub records : Bound → List Numbered → List (List Cell)
records bound rows =
    if bound.grouped
    then map (λ g. map (item_cell bound.groups g.0 g.1) (wanted bound)) (map_of.entries (rows_by_key bound.groups (map (λ r. r.1) rows)))
    else map (λ r. map (row_cell r.1) (wanted bound)) rows

-- ---- ORDER BY

-- one key: NULL is last, and first where the key descends
abbrev pub directed : Bool → Cell → Cell → Ordering
directed false a b = cell_order a b
directed true a b = cell_order b a

-- the first key at which the cells differ decides; the keys stand from a place on
abbrev pub by_keys : List Key → ℕ → List Cell → List Cell → Ordering
by_keys [] place xs ys = Equal
by_keys (k ∷ ks) place xs ys =
    ordering_then (directed k.descending (get_or xs place cell.Null) (get_or ys place cell.Null)) (by_keys ks (place + 1) xs ys)

-- two records whose keys stand behind so many cells
abbrev pub record_order : List Key → ℕ → List Cell → List Cell → Ordering
record_order keys count xs ys = by_keys keys 0 (drop count xs) (drop count ys)

-- a record put before the first that is not less, into records in order
abbrev pub put_in_order : {A : Type 0} → (A → A → Ordering) → A → List A → List A
put_in_order cmp new [] = new ∷ []
put_in_order cmp new (x ∷ xs) = if is_gt (cmp new x) then x ∷ put_in_order cmp new xs else new ∷ x ∷ xs

-- in order; those that tie stay in the order that they have
abbrev pub in_order : {A : Type 0} → (A → A → Ordering) → List A → List A
in_order cmp [] = []
in_order cmp (x ∷ xs) = put_in_order cmp x (in_order cmp xs)

-- ---- the answer

-- the records in the order of ORDER BY, without its keys
abbrev pub put_out : Bound → List (List Cell) → List (List Cell)
put_out bound found = map (take (length bound.items)) (in_order (record_order bound.keys (length bound.items)) found)

-- the answer over all rows: those that the query keeps, in groups where it is grouped, in order
abbrev pub answer : Bound → List Numbered → List (List Cell)
answer bound rows = put_out bound (records bound (kept bound rows))

-- ---- the answer of a part

-- an item of a group, by what the group has taken of its rows
abbrev pub group_cell : List ℕ → List Asked → List Value → Tallied → ItemOf ℕ → Cell
group_cell columns asked key t (item.Column column) = cell_of (key_value columns key column)
group_cell columns asked key t item.CountAll = cell.Int (pos t.rows)
group_cell columns asked key t (item.Aggregate function column) = reading function (sums_at asked t.sums column)

-- a record for each group, in the order of their keys
abbrev pub group_records : List ℕ → List (ItemOf ℕ) → Groups → List (List Cell)
group_records columns is groups = map (λ g. map (group_cell columns (asked_in is) g.0 g.1) is) (map_of.entries groups)

abbrev pub part_records : Bound → Parts → List (List Cell)
part_records bound parts =
    if bound.grouped then group_records bound.groups (wanted bound) parts.groups
    else map (λ r. map (row_cell r.1) (wanted bound)) parts.rows

-- what is left to do once all rows have been seen
abbrev pub finished : Bound → Parts → List (List Cell)
finished bound parts = put_out bound (part_records bound parts)
