use Rattle.std.proofs.Common.{◌≡◌, drop}
use Rattle.std.specs.List.{list_any}
use Rattle.im_syntax.specs.Condition.{conj_of, terms_of}
use Rattle.im_index.specs.Excludes.{excludes_term}
use Rattle.im_index.proofs.pruning.some_excluded.Given as goal

abbrev pub invariant-loop-test : goal.invariant-loop-test
invariant-loop-test l =
    list_any (excludes_term l.bounds) (terms_of (conj_of (drop l.test-index l.test-items))) ≡ list_any (excludes_term l.bounds) (terms_of l.tests)
