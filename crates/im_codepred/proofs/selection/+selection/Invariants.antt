use Rattle.std.proofs.Common.{ℕ, drop}
use Rattle.im_syntax.specs.Condition.{conj_of, cond_of, term_size, conj_size, cond_size}
use Rattle.im_eval.specs.Holds.{truth_of_tests, truth_of}
use Rattle.im_codepred.specs.Asked.{met}
use Rattle.im_codepred.specs.inner.Parts.{AreJoined}
use Rattle.im_codepred.specs.inner.Slabs.{count_of, row_of}
use Rattle.im_codepred.proofs.selection.+selection.Given as goal

abbrev pub decreases-test_mask : goal.decreases-test_mask
decreases-test_mask l = term_size l.test.now

abbrev pub decreases-all_mask : goal.decreases-all_mask
decreases-all_mask l = conj_size l.tests.now

abbrev pub decreases-some_mask : goal.decreases-some_mask
decreases-some_mask l = cond_size l.filter.now

abbrev pub invariant-all_mask-loop-test : goal.invariant-all_mask-loop-test
invariant-all_mask-loop-test l =
    AreJoined l.both (λ (i : ℕ). met l.wanted (truth_of_tests (conj_of (drop l.test-index l.test-items)) (row_of l.slab i)))
    (λ (i : ℕ). met l.wanted (truth_of_tests (conj_of l.test-items) (row_of l.slab i))) (count_of l.slab) l.mask

abbrev pub invariant-some_mask-loop-tests : goal.invariant-some_mask-loop-tests
invariant-some_mask-loop-tests l =
    AreJoined l.both (λ (i : ℕ). met l.wanted (truth_of (cond_of (drop l.tests-index l.tests-items)) (row_of l.slab i)))
    (λ (i : ℕ). met l.wanted (truth_of (cond_of l.tests-items) (row_of l.slab i))) (count_of l.slab) l.mask
