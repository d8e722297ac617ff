use Rattle.std.proofs.Common.{◌≡◌, drop}
use Rattle.std.specs.List.{list_any}
use Rattle.im_group.specs.Tallies.{asks}
use Rattle.im_group.proofs.asked.some_ask.Given as goal

abbrev pub invariant-loop-item : goal.invariant-loop-item
invariant-loop-item l = list_any (asks l.end l.column) (drop l.item-index l.items) ≡ list_any (asks l.end l.column) l.items
