-- Values that are picked from those of a column and from fresh ones.
use Rattle.std.specs.Prelude.{ℕ, List, ◌++◌}
use Rattle.im_values.specs.declared.content.Content.{Content as Value}
use Rattle.im_codes.specs.Dictionary.{values_at}

-- the values at places of a list that has the old values first, and the fresh ones behind them
abbrev pub values_picked : List Value → List Value → List ℕ → List Value
values_picked old fresh places = values_at (old ++ fresh) places
