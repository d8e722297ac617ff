-- Rows that a query takes together, by a summary of each column.
use Rattle.std.specs.Prelude.{◌≡◌, Bool, true, ◌||◌, []}
use Rattle.im_group.specs.declared.asked.Asked.{Asked}
use Rattle.im_syntax.specs.declared.bound.Bound.{Bound}

-- a query takes all rows together
pub record TakesTogether (bound : Bound) : Type 0 where
  pub grouped : bound.grouped ≡ true
  pub whole : bound.groups ≡ []

-- a query asks for an end of a column's values
abbrev pub wants_ends : Asked → Bool
wants_ends asked = asked.least || asked.greatest
