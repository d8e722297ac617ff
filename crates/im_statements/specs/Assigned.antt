-- Values that are assigned to columns of a row.
use Rattle.std.specs.Prelude.{ℕ, List, fold, slice_set}
use Rattle.im_values.specs.declared.content.Content.{Content as Value}
use Rattle.im_history.specs.Rows.{Row}

-- each value in its column, in order
abbrev pub assigned : List (ℕ × Value) → Row → Row
assigned sets row = fold (λ values set. slice_set values set.0 set.1) row sets
