-- How rows are kept that lie one behind another in a block, or are picked of two blocks.
use Rattle.std.specs.Prelude.{List, ℕ, ◌≤◌, ◌<◌, ◌+◌, ◌*◌, ◌++◌, [], All, drop, get_or, length, map, take}
use Rattle.std.specs.Arc.{arc_value}
use Rattle.im_values.specs.declared.rows.Form.{Form}
use Rattle.im_values.specs.declared.rows.Form.TheVariants.{Laid, Picked}
use Rattle.im_values.specs.declared.rows.Picks.{Picks}
use Rattle.im_values.specs.declared.content.Content.{Content as Value}
use Rattle.im_values.specs.Stretches.{cut}

-- the rows at these places
abbrev pub picked : List (List Value) → List ℕ → List (List Value)
picked rows places = map (λ place. get_or rows place []) places

-- the rows of both blocks, of which rows of so many values are picked
abbrev pub rows_of_both : Picks → ℕ → List (List Value)
rows_of_both picks width = cut picks.count width (drop picks.first (arc_value picks.block).items) ++ cut picks.more width (arc_value picks.others).items

-- so many rows, from a place on
abbrev pub rows_in : Form → ℕ → ℕ → ℕ → List (List Value)
rows_in (Laid block) first width count = cut count width (drop first (arc_value block).items)
rows_in (Picked picks) first width count = picked (rows_of_both (arc_value picks) width) (take count (drop first (arc_value picks).places.items))

-- both blocks have as many rows
pub record AreBothThere (picks : Picks) (width : ℕ) : Type 0 where
  pub laid : picks.first + picks.count * width ≤ length (arc_value picks.block).items
  pub others : picks.more * width ≤ length (arc_value picks.others).items
  pub places : All (λ place. place < picks.count + picks.more) picks.places.items

-- the rows lie inside their blocks
abbrev pub LieInside : Form → ℕ → ℕ → ℕ → Type 0
LieInside (Laid block) first width count = first + count * width ≤ length (arc_value block).items
LieInside (Picked picks) first width count = AreBothThere (arc_value picks) width × (first + count ≤ length (arc_value picks).places.items)
