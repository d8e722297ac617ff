use Rattle.std.proofs.Common.{◌≡◌, map, take}
use Rattle.im_names.specs.Queries.{item_fault, item_of}
use Rattle.im_names.proofs.FaultLemmas.{From, faults_of}
use Rattle.im_names.proofs.queries.bind_items.Given as goal

abbrev pub invariant-loop-item : goal.invariant-loop-item
invariant-loop-item l =
    From (faults_of (item_fault l.schema)) l.items l.item-index
    × (l.bound.items ≡ map (item_of l.schema) (take l.item-index l.items))
