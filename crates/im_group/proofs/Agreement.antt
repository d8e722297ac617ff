-- Keys are equal exactly where their values tie in SQL's order.
use Rattle.std.proofs.Common.{◌≡◌, Bool, List, [], ◌∷◌, refl}
use Rattle.std.specs.Ordering.{ordering_then}
use Rattle.std.specs.Cmp.Lexicographic.{pointwise, slice_cmp, lists_ties}
use Rattle.im_values.specs.contracts.value.ValuePartialEq.TheImpl as value_eq
use Rattle.im_values.specs.contracts.value.ValueOrd.TheImpl as value_ord
use Rattle.im_values.specs.declared.content.Content.{Content as Value}
use Rattle.im_values.specs.declared.content.Content.TheVariants.{Int, Text, Null}
use Rattle.im_values.specs.Order.{order}
use Rattle.im_values.proofs.ForCallers.{value_ties}
use Rattle.im_group.specs.Partials.{key_order, is_key}

-- equality of values, as it is derived
abbrev pub same_value : Value → Value → Bool
same_value = (value_eq.ghosts).eq

pub keys_tie : (xs ys : List Value) → pointwise same_value xs ys ≡ is_key xs ys
keys_tie = lists_ties order value_ties

-- the order of values, as it is derived
value_orders : (a b : Value) → (value_ord.ghosts).cmp a b ≡ order a b
value_orders (Int a) (Int b) = refl
value_orders (Text a) (Text b) = refl
value_orders Null Null = refl
value_orders a b = refl

pub keys_order : (xs ys : List Value) → slice_cmp ((value_ord.ghosts).cmp) xs ys ≡ key_order xs ys
keys_order [] [] = refl
keys_order [] (y ∷ ys) = refl
keys_order (x ∷ xs) [] = refl
keys_order (x ∷ xs) (y ∷ ys) = λ i. ordering_then (value_orders x y i) (keys_order xs ys i)
