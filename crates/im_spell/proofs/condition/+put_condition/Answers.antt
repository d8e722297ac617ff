use Rattle.std.proofs.Common.{arith, ap}
use Rattle.im_syntax.specs.Condition.{conj_size, cond_size}
use Rattle.im_syntax.proofs.ConditionParts.{term_below, conj_below}
use Rattle.im_spell.proofs.condition.+put_condition.Goals as goal

pub put_conj-put_term-requires : goal.put_conj-put_term-requires
put_conj-put_term-requires t c =
    let below = term_below c.terms-term-items.result.now c.loop-i.i c.term-item.result c.loop-i-test.true c.term-item.is in
    let whole = ap conj_size c.terms-term-items.ensures in
    (omega arith, tt)

pub put_cond-put_conj-requires : goal.put_cond-put_conj-requires
put_cond-put_conj-requires t c =
    let below = conj_below c.lists-conj-items.result.now c.loop-i.i c.conj-item.result c.loop-i-test.true c.conj-item.is in
    let whole = ap cond_size c.lists-conj-items.ensures in
    (omega arith, tt)
