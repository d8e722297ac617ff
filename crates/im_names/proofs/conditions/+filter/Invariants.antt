use Rattle.std.proofs.Common.{◌≡◌, map, take}
use Rattle.im_syntax.specs.Condition.{term_size, conj_size, cond_size, conj_of, cond_of}
use Rattle.im_names.specs.Lookups.{number_of}
use Rattle.im_names.specs.Literals.{value_of}
use Rattle.im_names.specs.Conditions.{conj_values, cond_values, values_fault, term_map, conj_map}
use Rattle.im_names.proofs.FaultLemmas.{From}
use Rattle.im_names.proofs.conditions.+filter.Given as goal

abbrev pub decreases-bind_term : goal.decreases-bind_term
decreases-bind_term l = term_size l.term.now

abbrev pub decreases-bind_conj : goal.decreases-bind_conj
decreases-bind_conj l = conj_size l.conj.now

abbrev pub decreases-bind_cond : goal.decreases-bind_cond
decreases-bind_cond l = cond_size l.cond.now

abbrev pub invariant-bind_conj-loop-term : goal.invariant-bind_conj-loop-term
invariant-bind_conj-loop-term l =
    From (λ i terms. values_fault l.schema (conj_values (conj_of terms))) l.term-items l.term-index
    × (l.tests.items ≡ map (term_map (number_of l.schema) value_of) (take l.term-index l.term-items))

abbrev pub invariant-bind_cond-loop-conj : goal.invariant-bind_cond-loop-conj
invariant-bind_cond-loop-conj l =
    From (λ i conjs. values_fault l.schema (cond_values (cond_of conjs))) l.conj-items l.conj-index
    × (l.lists.items ≡ map (conj_map (number_of l.schema) value_of) (take l.conj-index l.conj-items))
