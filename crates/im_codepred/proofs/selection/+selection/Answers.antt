use Rattle.std.proofs.Common.{◌≡◌, ◌+◌, ℕ, Bool, length, drop, replicate, ap, sym, subst, ◌∙◌, arith}
use Rattle.std.proofs.lemmas.List.FromFn.{length-map-range_with_len}
use Rattle.im_syntax.specs.Condition.{conj_of, cond_of, conj_size, cond_size}
use Rattle.im_syntax.specs.BoundFits.{FilterFits, TestsFit, TestFits}
use Rattle.im_syntax.specs.Forms.{term_of_form}
use Rattle.im_syntax.proofs.ConditionParts.{term_below, conj_below}
use Rattle.im_eval.specs.Holds.{truth_of_test, truth_of_tests, truth_of}
use Rattle.im_codepred.specs.Asked.{met}
use Rattle.im_codepred.specs.inner.Parts.{part}
use Rattle.im_codepred.specs.inner.Slabs.{count_of, row_of, passing, OfEach}
use Rattle.im_codepred.proofs.SelectionLemmas as lemma
use Rattle.im_codepred.proofs.selection.+selection.Goals as goal

pub all_mask-loop-test-init : goal.all_mask-loop-test-init
all_mask-loop-test-init t c =
    let slab = c.args.slab.now in
    let parts = c.terms-test-items.result.now in
    let whole : ℕ → Bool = λ i. met c.args.wanted (truth_of_tests (conj_of parts) (row_of slab i)) in
    lemma.join-begin c.met-both.result whole (count_of slab) c.in_ok-mask.mask
    (c.in_ok-mask.ensures ∙ ap (λ n. replicate n c.met-both.result) c.len.ensures)

pub all_mask-test_mask-requires : goal.all_mask-test_mask-requires
all_mask-test_mask-requires t c =
    let slab = c.args.slab.now in
    let parts = c.terms-test-items.result.now in
    let k = c.loop-test.test-index in
    let whole = c.terms-test-items.ensures in
    let below = term_below parts k c.test-item.result c.loop-test-test.true c.test-item.is in
    let same = ap conj_size whole in
    let fits : OfEach (λ row. TestFits row c.test-item.result) slab =
    λ i h.
    let all = subst (TestsFit (row_of slab i)) (sym whole) (c.requires.fits i h) in
    lemma.test-fits (row_of slab i) parts k c.test-item.result c.loop-test-test.true c.test-item.is all in
    (omega arith, (c.requires.whole, fits))

pub all_mask-join-requires : goal.all_mask-join-requires
all_mask-join-requires t c =
    let slab = c.args.slab.now in
    let here : ℕ → Bool = λ i. met c.args.wanted (truth_of_test c.test-item.result (row_of slab i)) in
    c.loop-test.invariant.size ∙ sym (ap length c.in_ok-next.ensures ∙ length-map-range_with_len here 0 (count_of slab))

pub all_mask-loop-test-preserved : goal.all_mask-loop-test-preserved
all_mask-loop-test-preserved t c =
    let slab = c.args.slab.now in
    let parts = c.terms-test-items.result.now in
    let k = c.loop-test.test-index in
    let here : ℕ → Bool = λ i. met c.args.wanted (truth_of_test c.test-item.result (row_of slab i)) in
    let left : ℕ → ℕ → Bool = λ from i. met c.args.wanted (truth_of_tests (conj_of (drop from parts)) (row_of slab i)) in
    let splits : (i : ℕ) → left k i ≡ part c.met-both.result (here i) (left (k + 1) i) =
    λ i.
    lemma.left-tests c.args.wanted c.met-both.result parts k c.test-item.result (row_of slab i) c.met-both.ensures c.loop-test-test.true c.test-item.is in
    lemma.join-more c.met-both.result here (left (k + 1)) (left k) (left 0) (count_of slab) c.loop-test.mask c.in_ok-next.next c.join.new.mask splits
    c.in_ok-next.ensures c.join.ensures c.loop-test.invariant

pub all_mask-returns : goal.all_mask-returns
all_mask-returns t c =
    let slab = c.args.slab.now in
    let parts = c.terms-test-items.result.now in
    let k = c.loop-test.test-index in
    let left : ℕ → ℕ → Bool = λ from i. met c.args.wanted (truth_of_tests (conj_of (drop from parts)) (row_of slab i)) in
    let none : (i : ℕ) → left k i ≡ c.met-both.result =
    λ i. lemma.none-tests c.args.wanted c.met-both.result parts k (row_of slab i) c.met-both.ensures c.loop-test-test.false in
    lemma.join-end c.met-both.result (left k) (left 0) (count_of slab) c.loop-test.mask none c.loop-test.invariant
    ∙ ap (λ f. passing (λ row. met c.args.wanted (truth_of_tests f row)) slab) c.terms-test-items.ensures

pub some_mask-loop-tests-init : goal.some_mask-loop-tests-init
some_mask-loop-tests-init t c =
    let slab = c.args.slab.now in
    let parts = c.lists-tests-items.result.now in
    let whole : ℕ → Bool = λ i. met c.args.wanted (truth_of (cond_of parts) (row_of slab i)) in
    lemma.join-begin c.met-both.result whole (count_of slab) c.in_ok-mask.mask
    (c.in_ok-mask.ensures ∙ ap (λ n. replicate n c.met-both.result) c.len.ensures)

pub some_mask-all_mask-requires : goal.some_mask-all_mask-requires
some_mask-all_mask-requires t c =
    let slab = c.args.slab.now in
    let parts = c.lists-tests-items.result.now in
    let k = c.loop-tests.tests-index in
    let whole = c.lists-tests-items.ensures in
    let below = conj_below parts k c.tests-item.result c.loop-tests-test.true c.tests-item.is in
    let same = ap cond_size whole in
    let fits : OfEach (λ row. TestsFit row c.tests-item.result) slab =
    λ i h.
    let all = subst (FilterFits (row_of slab i)) (sym whole) (c.requires.fits i h) in
    lemma.tests-fit (row_of slab i) parts k c.tests-item.result c.loop-tests-test.true c.tests-item.is all in
    (omega arith, (c.requires.whole, fits))

pub some_mask-join-requires : goal.some_mask-join-requires
some_mask-join-requires t c =
    let slab = c.args.slab.now in
    let here : ℕ → Bool = λ i. met c.args.wanted (truth_of_tests c.tests-item.result (row_of slab i)) in
    c.loop-tests.invariant.size ∙ sym (ap length c.in_ok-next.ensures ∙ length-map-range_with_len here 0 (count_of slab))

pub some_mask-loop-tests-preserved : goal.some_mask-loop-tests-preserved
some_mask-loop-tests-preserved t c =
    let slab = c.args.slab.now in
    let parts = c.lists-tests-items.result.now in
    let k = c.loop-tests.tests-index in
    let here : ℕ → Bool = λ i. met c.args.wanted (truth_of_tests c.tests-item.result (row_of slab i)) in
    let left : ℕ → ℕ → Bool = λ from i. met c.args.wanted (truth_of (cond_of (drop from parts)) (row_of slab i)) in
    let splits : (i : ℕ) → left k i ≡ part c.met-both.result (here i) (left (k + 1) i) =
    λ i.
    lemma.left-lists c.args.wanted c.met-both.result parts k c.tests-item.result (row_of slab i) c.met-both.ensures c.loop-tests-test.true c.tests-item.is in
    lemma.join-more c.met-both.result here (left (k + 1)) (left k) (left 0) (count_of slab) c.loop-tests.mask c.in_ok-next.next c.join.new.mask splits
    c.in_ok-next.ensures c.join.ensures c.loop-tests.invariant

pub some_mask-returns : goal.some_mask-returns
some_mask-returns t c =
    let slab = c.args.slab.now in
    let parts = c.lists-tests-items.result.now in
    let k = c.loop-tests.tests-index in
    let left : ℕ → ℕ → Bool = λ from i. met c.args.wanted (truth_of (cond_of (drop from parts)) (row_of slab i)) in
    let none : (i : ℕ) → left k i ≡ c.met-both.result =
    λ i. lemma.none-lists c.args.wanted c.met-both.result parts k (row_of slab i) c.met-both.ensures c.loop-tests-test.false in
    lemma.join-end c.met-both.result (left k) (left 0) (count_of slab) c.loop-tests.mask none c.loop-tests.invariant
    ∙ ap (λ f. passing (λ row. met c.args.wanted (truth_of f row)) slab) c.lists-tests-items.ensures

pub test_mask-returns-in_ok-mask-in-IsNull : goal.test_mask-returns-in_ok-mask-in-IsNull
test_mask-returns-in_ok-mask-in-IsNull t c =
    let is = ap term_of_form (sym c.in-IsNull.is) ∙ c.form.ensures in
    c.in_ok-mask-in-IsNull.ensures
    ∙ lemma.null-passes c.args.wanted c.turned.result c.args.test.now c.args.slab.now c.in-IsNull.column c.in-IsNull.negated is c.turned.ensures

pub test_mask-returns-in_ok-mask-in-Between : goal.test_mask-returns-in_ok-mask-in-Between
test_mask-returns-in_ok-mask-in-Between t c =
    let is = ap term_of_form (sym c.in-Between.is) ∙ c.form.ensures in
    c.in_ok-mask-in-Between.ensures
    ∙ lemma.between-passes c.args.wanted c.turned-in-Between.result c.args.test.now c.args.slab.now c.in-Between.column c.in-Between.negated c.in-Between.low
    c.in-Between.high is c.turned-in-Between.ensures

pub test_mask-returns-in_ok-mask-in-Within : goal.test_mask-returns-in_ok-mask-in-Within
test_mask-returns-in_ok-mask-in-Within t c =
    let is = ap term_of_form (sym c.in-Within.is) ∙ c.form.ensures in
    c.in_ok-mask-in-Within.ensures
    ∙ lemma.within-passes c.args.wanted c.turned-in-Within.result c.args.test.now c.args.slab.now c.in-Within.column c.in-Within.negated c.in-Within.values is
    c.turned-in-Within.ensures
