-- The bounds of a list of values.
use Rattle.std.specs.Prelude.{ℕ, ◌-◌, List, count_by, length, slice_get}
use Rattle.im_values.specs.declared.content.Content.{Content as Value}
use Rattle.im_values.specs.Order.{is_null}
use Rattle.im_values.specs.Sizes.{dictionary}
use Rattle.im_index.specs.declared.bounds.Bounds.{Bounds}

-- the first and the last of values that rise, and a number of NULLs
abbrev pub bounds_with : List Value → ℕ → Bounds
bounds_with rising nulls = record { least = slice_get rising 0; greatest = slice_get rising (length rising - 1); nulls = nulls }

-- the bounds of a list of values: the least and the greatest that is not NULL, and how many are NULL
abbrev pub bounds_of : List Value → Bounds
bounds_of values = bounds_with (dictionary values) (count_by is_null values)
