-- Which values stand in the list of an IN.
use Rattle.std.specs.Prelude.{Bool, List}
use Rattle.std.specs.List.{list_any}
use Rattle.std.specs.Ordering.{is_eq}
use Rattle.im_values.specs.declared.content.Content.{Content as Value}
use Rattle.im_values.specs.Order.{order}

-- the value is one of the list, NULL as any other
abbrev pub has : List Value → Value → Bool
has choices value = list_any (λ choice. is_eq (order choice value)) choices
