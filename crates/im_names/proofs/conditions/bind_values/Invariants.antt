use Rattle.std.proofs.Common.{◌≡◌, map, take}
use Rattle.im_names.specs.Literals.{value_of}
use Rattle.im_names.specs.Conditions.{behind, values_fault}
use Rattle.im_names.proofs.FaultLemmas.{From}
use Rattle.im_names.proofs.conditions.bind_values.Given as goal

abbrev pub invariant-loop-lit : goal.invariant-loop-lit
invariant-loop-lit l =
    From (λ i lits. values_fault l.schema (map (behind l.column) lits)) l.lits l.lit-index
    × (l.values.items ≡ map value_of (take l.lit-index l.lits))
