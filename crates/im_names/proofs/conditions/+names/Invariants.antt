use Rattle.im_syntax.specs.Condition.{term_size, conj_size, cond_size, conj_of, cond_of}
use Rattle.im_names.specs.Lookups.{unknown_fault}
use Rattle.im_names.specs.Conditions.{conj_names, cond_names}
use Rattle.im_names.proofs.FaultLemmas.{From}
use Rattle.im_names.proofs.conditions.+names.Given as goal

abbrev pub decreases-check_term : goal.decreases-check_term
decreases-check_term l = term_size l.term.now

abbrev pub decreases-check_conj : goal.decreases-check_conj
decreases-check_conj l = conj_size l.conj.now

abbrev pub decreases-check_cond : goal.decreases-check_cond
decreases-check_cond l = cond_size l.cond.now

abbrev pub invariant-check_conj-loop-term : goal.invariant-check_conj-loop-term
invariant-check_conj-loop-term l = From (λ i terms. unknown_fault l.schema (conj_names (conj_of terms))) l.term-items l.term-index

abbrev pub invariant-check_cond-loop-conj : goal.invariant-check_cond-loop-conj
invariant-check_cond-loop-conj l = From (λ i conjs. unknown_fault l.schema (cond_names (cond_of conjs))) l.conj-items l.conj-index
