use Rattle.std.proofs.Common.{◌≡◌, map}
use Rattle.std.specs.List.{range_with_len}
use Rattle.im_syntax.specs.declared.item.ItemOf.TheVariants as item
use Rattle.im_names.proofs.queries.all_columns.Given as goal

abbrev pub invariant-loop-number : goal.invariant-loop-number
invariant-loop-number l = l.items.items ≡ map item.Column (range_with_len 0 l.number)
