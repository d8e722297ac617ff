-- The numbers of the columns that the values of a tuple are for, as the code keeps them.
use Rattle.std.specs.Prelude.{ℕ, List}
use Rattle.std.specs.List.{range_with_len}
use Rattle.im_names.specs.declared.targets.Targets.{Targets}
use Rattle.im_names.specs.declared.targets.Targets.TheVariants.{Whole, Listed}

abbrev pub numbers_of : Targets → List ℕ
numbers_of (Whole width) = range_with_len 0 width
numbers_of (Listed numbers) = numbers.items
