-- The cells of an answer, and their order.
use Rattle.std.specs.declared.cmp.Ordering.{Ordering}
use Rattle.im_values.specs.declared.content.Content.{Content as Value}
use Rattle.im_values.specs.declared.content.Content.TheVariants as value
use Rattle.im_values.specs.Order.{order}
use Rattle.im_group.specs.declared.cell.Cell.{Cell}
use Rattle.im_group.specs.declared.cell.Cell.TheVariants as cell

-- the cell of a value
abbrev pub cell_of : Value → Cell
cell_of (value.Int n) = cell.Int n
cell_of (value.Text t) = cell.Text t
cell_of value.Null = cell.Null

-- a cell as a value, whose number may be of any size
abbrev pub value_of : Cell → Value
value_of (cell.Int n) = value.Int n
value_of (cell.Text t) = value.Text t
value_of cell.Null = value.Null

-- the order of the values, NULL last
abbrev pub cell_order : Cell → Cell → Ordering
cell_order a b = order (value_of a) (value_of b)
