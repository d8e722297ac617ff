use Rattle.std.proofs.Common.{arith, ap, sym, subst}
use Rattle.im_syntax.specs.Condition.{conj_size, cond_size}
use Rattle.im_syntax.specs.BoundFits.{TestsFit, FilterFits}
use Rattle.im_syntax.proofs.ConditionParts.{term_below, conj_below}
use Rattle.im_eval.proofs.Chains.{test_fits, tests_fit}
use Rattle.im_eval.proofs.truth.+condition.Goals as goal

pub all_hold-test_holds-requires : goal.all_hold-test_holds-requires
all_hold-test_holds-requires t c =
    let row = c.args.row.now in
    let terms = c.terms-test-items.result.now in
    let whole = c.terms-test-items.ensures in
    let below = term_below terms c.loop-test.test-index c.test-item.result c.loop-test-test.true c.test-item.is in
    let same = ap conj_size whole in
    let fits = subst (TestsFit row) (sym whole) c.requires in
    (omega arith, test_fits row terms c.loop-test.test-index c.test-item.result c.loop-test-test.true c.test-item.is fits)

pub holds-all_hold-requires : goal.holds-all_hold-requires
holds-all_hold-requires t c =
    let row = c.args.row.now in
    let lists = c.lists-tests-items.result.now in
    let whole = c.lists-tests-items.ensures in
    let below = conj_below lists c.loop-tests.tests-index c.tests-item.result c.loop-tests-test.true c.tests-item.is in
    let same = ap cond_size whole in
    let fits = subst (FilterFits row) (sym whole) c.requires in
    (omega arith, tests_fit row lists c.loop-tests.tests-index c.tests-item.result c.loop-tests-test.true c.tests-item.is fits)
