use Rattle.std.proofs.Common.{◌≡◌, drop}
use Rattle.im_values.specs.Truth as truth
use Rattle.im_syntax.specs.Condition.{conj_of, cond_of, term_size, conj_size, cond_size}
use Rattle.im_eval.specs.Holds.{truth_of_tests, truth_of}
use Rattle.im_eval.proofs.truth.+condition.Given as goal

abbrev pub decreases-test_holds : goal.decreases-test_holds
decreases-test_holds l = term_size l.test.now

abbrev pub decreases-all_hold : goal.decreases-all_hold
decreases-all_hold l = conj_size l.tests.now

abbrev pub decreases-holds : goal.decreases-holds
decreases-holds l = cond_size l.filter.now

abbrev pub invariant-all_hold-loop-test : goal.invariant-all_hold-loop-test
invariant-all_hold-loop-test l = truth.and l.truth (truth_of_tests (conj_of (drop l.test-index l.test-items)) l.row) ≡ truth_of_tests l.tests l.row

abbrev pub invariant-holds-loop-tests : goal.invariant-holds-loop-tests
invariant-holds-loop-tests l = truth.or l.truth (truth_of (cond_of (drop l.tests-index l.tests-items)) l.row) ≡ truth_of l.filter l.row
