-- The values of an IN beside the same values in order.
use Rattle.std.specs.Prelude.{◌≡◌, Bool, List}
use Rattle.std.specs.List.Sorted.{IsSorted}
use Rattle.im_values.specs.declared.content.Content.{Content as Value}
use Rattle.im_values.specs.declared.content.Content.TheVariants.{Null}
use Rattle.im_values.specs.Order.{order}
use Rattle.im_syntax.specs.Choices.{has}

-- the values of a list, in order
pub record IsInOrder (written ordered : List Value) : Type 0 where
  pub sorted : IsSorted order ordered
  pub same : (value : Value) → has ordered value ≡ has written value

-- what a look-up reads: the values in order, and whether NULL is one of them
pub record IsSearchable (written ordered : List Value) (has_null : Bool) : Type 0 where
  pub values : IsInOrder written ordered
  pub null : has_null ≡ has written Null
