use Rattle.std.proofs.Common.{arith, ap, refl}
use Rattle.std.proofs.lemmas.Result.{err_from_is_err_and}
use Rattle.im_syntax.specs.Condition.{conj_size, cond_size, conj_of, cond_of}
use Rattle.im_syntax.proofs.ConditionParts.{term_below, conj_below}
use Rattle.im_names.specs.Lookups.{unknown}
use Rattle.im_names.specs.Conditions.{term_names, conj_names, cond_names}
use Rattle.im_names.proofs.FaultLemmas.{chain_goes, chain_fails}
use Rattle.im_names.proofs.conditions.+names.Goals as goal

pub check_cond-check_conj-requires : goal.check_cond-check_conj-requires
check_cond-check_conj-requires t c =
    let below = conj_below c.lists-conj-items.result.now c.loop-conj.conj-index c.conj-item.result c.loop-conj-test.true c.conj-item.is in
    let whole = ap cond_size c.lists-conj-items.ensures in
    (omega arith, tt)

pub check_cond-returns-in_err-check_conj-clause-err : goal.check_cond-returns-in_err-check_conj-clause-err
check_cond-returns-in_err-check_conj-clause-err t c =
    let p = err_from_is_err_and c.from_residual.result c.from_residual.ensures.1 in
    rw (p.1, p.2, ← c.lists-conj-items.ensures)
    (chain_fails (unknown c.args.schema.now) conj_names (λ cs. cond_names (cond_of cs))
    (λ c cs. refl) c.lists-conj-items.result.now c.loop-conj.conj-index c.conj-item.result c.in_err-check_conj.field-0.0 c.loop-conj-test.true
    c.conj-item.is c.in_err-check_conj.ensures.err c.loop-conj.invariant)

pub check_cond-loop-conj-preserved : goal.check_cond-loop-conj-preserved
check_cond-loop-conj-preserved t c =
    chain_goes (unknown c.args.schema.now) conj_names (λ cs. cond_names (cond_of cs))
    (λ c cs. refl) c.lists-conj-items.result.now c.loop-conj.conj-index c.conj-item.result c.loop-conj-test.true c.conj-item.is
    c.in_ok-check_conj.ensures.ok c.loop-conj.invariant

pub check_conj-check_term-requires : goal.check_conj-check_term-requires
check_conj-check_term-requires t c =
    let below = term_below c.terms-term-items.result.now c.loop-term.term-index c.term-item.result c.loop-term-test.true c.term-item.is in
    let whole = ap conj_size c.terms-term-items.ensures in
    (omega arith, tt)

pub check_conj-returns-in_err-check_term-clause-err : goal.check_conj-returns-in_err-check_term-clause-err
check_conj-returns-in_err-check_term-clause-err t c =
    let p = err_from_is_err_and c.from_residual.result c.from_residual.ensures.1 in
    rw (p.1, p.2, ← c.terms-term-items.ensures)
    (chain_fails (unknown c.args.schema.now) term_names (λ ts. conj_names (conj_of ts))
    (λ t ts. refl) c.terms-term-items.result.now c.loop-term.term-index c.term-item.result c.in_err-check_term.field-0.0 c.loop-term-test.true
    c.term-item.is c.in_err-check_term.ensures.err c.loop-term.invariant)

pub check_conj-loop-term-preserved : goal.check_conj-loop-term-preserved
check_conj-loop-term-preserved t c =
    chain_goes (unknown c.args.schema.now) term_names (λ ts. conj_names (conj_of ts))
    (λ t ts. refl) c.terms-term-items.result.now c.loop-term.term-index c.term-item.result c.loop-term-test.true c.term-item.is
    c.in_ok-check_term.ensures.ok c.loop-term.invariant
