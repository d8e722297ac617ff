use Rattle.std.proofs.Common.{arith, ap, refl, ◌∙◌}
use Rattle.std.proofs.lemmas.Result.{err_from_is_err_and}
use Rattle.im_syntax.specs.Condition.{conj_size, cond_size, conj_of, cond_of}
use Rattle.im_syntax.proofs.ConditionParts.{term_below, conj_below}
use Rattle.im_names.specs.Lookups.{number_of}
use Rattle.im_names.specs.Literals.{value_of}
use Rattle.im_names.specs.Conditions.{value_fault, term_values, conj_values, cond_values, term_map, conj_map}
use Rattle.im_names.proofs.FaultLemmas.{chain_goes, chain_fails, chain_ends}
use Rattle.im_names.proofs.MapLemmas.{map_goes, map_ends, conj_map-of, cond_map-of}
use Rattle.im_names.proofs.conditions.+filter.Goals as goal

pub bind_cond-bind_conj-requires : goal.bind_cond-bind_conj-requires
bind_cond-bind_conj-requires t c =
    let below = conj_below c.lists-conj-items.result.now c.loop-conj.conj-index c.conj-item.result c.loop-conj-test.true c.conj-item.is in
    let whole = ap cond_size c.lists-conj-items.ensures in
    (omega arith, tt)

pub bind_cond-returns-in_err-bind_conj-clause-err : goal.bind_cond-returns-in_err-bind_conj-clause-err
bind_cond-returns-in_err-bind_conj-clause-err t c =
    let p = err_from_is_err_and c.from_residual-in_err-bind_conj.result c.from_residual-in_err-bind_conj.ensures.1 in
    rw (p.1, p.2, ← c.lists-conj-items.ensures)
    (chain_fails (value_fault c.args.schema.now) conj_values (λ cs. cond_values (cond_of cs))
    (λ c cs. refl) c.lists-conj-items.result.now c.loop-conj.conj-index c.conj-item.result c.in_err-bind_conj.field-0.0 c.loop-conj-test.true
    c.conj-item.is c.in_err-bind_conj.ensures.err c.loop-conj.invariant.0)

pub bind_cond-loop-conj-preserved : goal.bind_cond-loop-conj-preserved
bind_cond-loop-conj-preserved t c = (
  chain_goes (value_fault c.args.schema.now) conj_values (λ cs. cond_values (cond_of cs))
      (λ c cs. refl) c.lists-conj-items.result.now c.loop-conj.conj-index c.conj-item.result c.loop-conj-test.true c.conj-item.is
      c.in_ok-bind_conj.ensures.ok.free c.loop-conj.invariant.0,
  map_goes (conj_map (number_of c.args.schema.now) value_of) c.lists-conj-items.result.now c.loop-conj.conj-index c.conj-item.result
      c.loop-conj.lists.items c.push.new.self.items c.in_ok-bind_conj.field-0 c.loop-conj-test.true c.conj-item.is c.in_ok-bind_conj.ensures.ok.is
      c.in_ok-push.ensures.items c.loop-conj.invariant.1,
)

pub bind_cond-returns-clause-ok : goal.bind_cond-returns-clause-ok
bind_cond-returns-clause-ok t c =
    let made = map_ends (conj_map (number_of c.args.schema.now) value_of) c.lists-conj-items.result.now c.loop-conj.conj-index c.loop-conj.lists.items
    c.loop-conj-test.false c.loop-conj.invariant.1 in
    rw (← c.lists-conj-items.ensures) (record {
      free =
          chain_ends (value_fault c.args.schema.now) conj_values (λ cs. cond_values (cond_of cs))
          (λ c cs. refl) refl c.lists-conj-items.result.now c.loop-conj.conj-index c.loop-conj-test.false c.loop-conj.invariant.0;
      is = c.of.ensures ∙ ap cond_of made ∙ cond_map-of (number_of c.args.schema.now) value_of c.lists-conj-items.result.now;
    })

pub bind_conj-bind_term-requires : goal.bind_conj-bind_term-requires
bind_conj-bind_term-requires t c =
    let below = term_below c.terms-term-items.result.now c.loop-term.term-index c.term-item.result c.loop-term-test.true c.term-item.is in
    let whole = ap conj_size c.terms-term-items.ensures in
    (omega arith, tt)

pub bind_conj-returns-in_err-bind_term-clause-err : goal.bind_conj-returns-in_err-bind_term-clause-err
bind_conj-returns-in_err-bind_term-clause-err t c =
    let p = err_from_is_err_and c.from_residual-in_err-bind_term.result c.from_residual-in_err-bind_term.ensures.1 in
    rw (p.1, p.2, ← c.terms-term-items.ensures)
    (chain_fails (value_fault c.args.schema.now) term_values (λ ts. conj_values (conj_of ts))
    (λ t ts. refl) c.terms-term-items.result.now c.loop-term.term-index c.term-item.result c.in_err-bind_term.field-0.0 c.loop-term-test.true
    c.term-item.is c.in_err-bind_term.ensures.err c.loop-term.invariant.0)

pub bind_conj-loop-term-preserved : goal.bind_conj-loop-term-preserved
bind_conj-loop-term-preserved t c = (
  chain_goes (value_fault c.args.schema.now) term_values (λ ts. conj_values (conj_of ts))
      (λ t ts. refl) c.terms-term-items.result.now c.loop-term.term-index c.term-item.result c.loop-term-test.true c.term-item.is
      c.in_ok-bind_term.ensures.ok.free c.loop-term.invariant.0,
  map_goes (term_map (number_of c.args.schema.now) value_of) c.terms-term-items.result.now c.loop-term.term-index c.term-item.result
      c.loop-term.tests.items c.push.new.self.items c.in_ok-bind_term.field-0 c.loop-term-test.true c.term-item.is c.in_ok-bind_term.ensures.ok.is
      c.in_ok-push.ensures.items c.loop-term.invariant.1,
)

pub bind_conj-returns-clause-ok : goal.bind_conj-returns-clause-ok
bind_conj-returns-clause-ok t c =
    let made = map_ends (term_map (number_of c.args.schema.now) value_of) c.terms-term-items.result.now c.loop-term.term-index c.loop-term.tests.items
    c.loop-term-test.false c.loop-term.invariant.1 in
    rw (← c.terms-term-items.ensures) (record {
      free =
          chain_ends (value_fault c.args.schema.now) term_values (λ ts. conj_values (conj_of ts))
          (λ t ts. refl) refl c.terms-term-items.result.now c.loop-term.term-index c.loop-term-test.false c.loop-term.invariant.0;
      is = c.of.ensures ∙ ap conj_of made ∙ conj_map-of (number_of c.args.schema.now) value_of c.terms-term-items.result.now;
    })
