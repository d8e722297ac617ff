-- How the values of a row are kept, and how a block of values is cut into rows.
use Rattle.std.specs.Prelude.{List, ℕ, ◌≤◌, ◌+◌, [], ◌∷◌, zero, suc, take, drop, length}
use Rattle.std.specs.List.{slice_range}
use Rattle.std.specs.Arc.{arc_value}
use Rattle.im_values.specs.declared.row.Form.{Form}
use Rattle.im_values.specs.declared.row.Form.TheVariants.{Owned, Stretch}
use Rattle.im_values.specs.declared.content.Content.{Content as Value}

-- the values
abbrev pub values_of : Form → List Value
values_of (Owned values) = values.items
values_of (Stretch block first count) = slice_range (arc_value block).items first (first + count)

-- a stretch lies inside its block
abbrev pub IsInside : Form → Type 0
IsInside (Owned values) = Unit {0}
IsInside (Stretch block first count) = first + count ≤ length (arc_value block).items

-- so many rows of so many values each
abbrev pub cut : ℕ → ℕ → List Value → List (List Value)
cut zero width values = []
cut (suc count) width values = take width values ∷ cut count width (drop width values)
