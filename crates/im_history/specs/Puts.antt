-- Changes that put rows, and changes that are lent.
use Rattle.std.specs.Prelude.{ℕ, ◌+◌, List, [], ◌∷◌, Some}
use Rattle.std.specs.List.{flat_map}
use Rattle.std.specs.Option.{option_copied}
use Rattle.im_values.specs.declared.content.Content.{Content as Value}
use Rattle.im_history.specs.declared.change.Change.{Change}
use Rattle.im_history.specs.declared.changes.LentChange.{LentChange}

-- rows put at row numbers of a table, from the first on
abbrev pub put_from : ℕ → ℕ → List (List Value) → List Change
put_from table first [] = []
put_from table first (row ∷ rows) = record { table = table; rid = first; row = Some row } ∷ put_from table (first + 1) rows

-- a change that is lent
abbrev pub lent_change : LentChange → Change
lent_change lent = record { table = lent.table; rid = lent.rid; row = option_copied lent.row }

-- the changes of several writes, one behind another
abbrev pub all_changes : List (List Change) → List Change
all_changes writes = flat_map (λ changes. changes) writes
