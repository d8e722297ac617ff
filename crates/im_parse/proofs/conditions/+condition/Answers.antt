use Rattle.std.proofs.Common.{◌-◌, length, ◌<◌, arith}
use Rattle.std.proofs.lemmas.Result.{err_from_is_err_and}
use Rattle.im_readers.proofs.Steps.{goes_on, halts, is_over, is_full}
use Rattle.im_syntax.specs.declared.keyword.Keyword.TheVariants as key
use Rattle.im_parse.specs.inner.Marks.{is_key}
use Rattle.im_parse.specs.inner.Conditions.{term_at, conj_at}
use Rattle.im_parse.proofs.Nesting.{term_at-at_zero, term_at-more}
use Rattle.im_parse.proofs.conditions.+condition.Goals as goal
use Rattle.im_parse.proofs.conditions.+condition.Goals.{terms_from-else-loop-test, terms_from-then-loop-test+in_default, lists_from-else-loop-test, lists_from-then-loop-test+in_default}

pub term-returns-then-depth-eq0 : goal.term-returns-then-depth-eq0
term-returns-then-depth-eq0 t c = rw (term_at-at_zero c.args.depth c.args.tokens.now c.if-depth-eq0.true) c.flat_term.ensures

pub term-returns-else-depth-eq0 : goal.term-returns-else-depth-eq0
term-returns-else-depth-eq0 t c = let h : 0 < c.args.depth = omega arith in rw (term_at-more c.args.depth c.args.tokens.now h) c.deep_term.ensures

pub terms_from-returns-in_err-term : goal.terms_from-returns-in_err-term
terms_from-returns-in_err-term t c =
    let p = err_from_is_err_and c.from_residual-in_err-term.result c.from_residual-in_err-term.ensures.1 in
    rw (p.1, p.2) (halts (is_key key.And) (term_at c.args.depth) _ c.in_err-term.field-0.0 c.loop.terms.items
    (length c.args.tokens.now) c.loop.counter c.loop.rest.now c.in-Some.next.now c.loop-test.true c.in-Some.ensures c.in_err-term.ensures c.loop.invariant)

pub terms_from-loop-preserved : goal.terms_from-loop-preserved
terms_from-loop-preserved t c =
    rw c.in_ok-push-2.ensures.items (goes_on (is_key key.And) (term_at c.args.depth) _ c.loop.terms.items
    (length c.args.tokens.now) c.loop.counter c.loop.rest.now c.in-Some.next.now c.in_ok-term.term c.in_ok-term.next.now
    c.loop-test.true c.in-Some.ensures c.in_ok-term.ensures c.loop.invariant)

pub terms_from-returns : goal.terms_from-returns
terms_from-returns t c =
    elim c.loop-test.branch [
      | terms_from-else-loop-test w ↦ is_full (is_key key.And) (term_at c.args.depth) _ c.loop.terms.items
          (length c.args.tokens.now) c.loop.counter c.loop.rest.now w.loop-test.false c.loop.invariant
      | terms_from-then-loop-test+in_default w ↦ is_over (is_key key.And) (term_at c.args.depth) _ c.loop.terms.items
          (length c.args.tokens.now - c.loop.counter) c.loop.rest.now w.in_default.ensures c.loop.invariant
    ]

pub lists_from-returns-in_err-conj : goal.lists_from-returns-in_err-conj
lists_from-returns-in_err-conj t c =
    let p = err_from_is_err_and c.from_residual-in_err-conj.result c.from_residual-in_err-conj.ensures.1 in
    rw (p.1, p.2) (halts (is_key key.Or) (conj_at c.args.depth) _ c.in_err-conj.field-0.0 c.loop.lists.items
    (length c.args.tokens.now) c.loop.counter c.loop.rest.now c.in-Some.next.now c.loop-test.true c.in-Some.ensures c.in_err-conj.ensures c.loop.invariant)

pub lists_from-loop-preserved : goal.lists_from-loop-preserved
lists_from-loop-preserved t c =
    rw c.in_ok-push-2.ensures.items (goes_on (is_key key.Or) (conj_at c.args.depth) _ c.loop.lists.items
    (length c.args.tokens.now) c.loop.counter c.loop.rest.now c.in-Some.next.now c.in_ok-conj.conj c.in_ok-conj.next.now
    c.loop-test.true c.in-Some.ensures c.in_ok-conj.ensures c.loop.invariant)

pub lists_from-returns : goal.lists_from-returns
lists_from-returns t c =
    elim c.loop-test.branch [
      | lists_from-else-loop-test w ↦ is_full (is_key key.Or) (conj_at c.args.depth) _ c.loop.lists.items
          (length c.args.tokens.now) c.loop.counter c.loop.rest.now w.loop-test.false c.loop.invariant
      | lists_from-then-loop-test+in_default w ↦ is_over (is_key key.Or) (conj_at c.args.depth) _ c.loop.lists.items
          (length c.args.tokens.now - c.loop.counter) c.loop.rest.now w.in_default.ensures c.loop.invariant
    ]
