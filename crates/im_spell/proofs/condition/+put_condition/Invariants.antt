use Rattle.std.proofs.Common.{◌≡◌, ◌++◌, drop}
use Rattle.im_syntax.specs.Condition.{term_size, conj_size, cond_size}
use Rattle.im_syntax.specs.Spelling.{spell_conj, spell_cond}
use Rattle.im_spell.proofs.SpellLists.{conj_from, cond_from}
use Rattle.im_spell.proofs.condition.+put_condition.Given as goal

abbrev pub decreases-put_cond : goal.decreases-put_cond
decreases-put_cond l = cond_size l.cond.now

abbrev pub decreases-put_conj : goal.decreases-put_conj
decreases-put_conj l = conj_size l.conj.now

abbrev pub decreases-put_term : goal.decreases-put_term
decreases-put_term l = term_size l.term.now

abbrev pub invariant-put_conj-loop-i : goal.invariant-put_conj-loop-i
invariant-put_conj-loop-i l = l.out.items ++ conj_from l.i (drop l.i l.term-items) ≡ l.fn.out.items ++ spell_conj l.conj

abbrev pub invariant-put_cond-loop-i : goal.invariant-put_cond-loop-i
invariant-put_cond-loop-i l = l.out.items ++ cond_from l.i (drop l.i l.conj-items) ≡ l.fn.out.items ++ spell_cond l.cond
