use Rattle.std.proofs.Common.{◌≡◌, map, take}
use Rattle.im_names.specs.Queries.{item_fault, key_item, key_of}
use Rattle.im_names.proofs.FaultLemmas.{From, faults_of}
use Rattle.im_names.proofs.queries.bind_keys.Given as goal

abbrev pub invariant-loop-key : goal.invariant-loop-key
invariant-loop-key l =
    From (λ i keys. faults_of (item_fault l.schema) i (map key_item keys)) l.keys l.key-index
    × (l.bound.items ≡ map (key_of l.schema) (take l.key-index l.keys))
