-- The truth of a condition on a row.
use Rattle.std.specs.Prelude.{ℕ, Bool, true, false, List, [], ◌∷◌, if◌then◌else◌}
use Rattle.im_values.specs.declared.comparison.Cmp.TheVariants.{Eq, Le, Ge}
use Rattle.im_values.specs.declared.truth.Truth.{Truth}
use Rattle.im_values.specs.declared.truth.Truth.TheVariants.{Yes, No}
use Rattle.im_values.specs.declared.content.Content.{Content as Value}
use Rattle.im_values.specs.Order.{is_null, compare}
use Rattle.im_values.specs.Truth as truth
use Rattle.im_syntax.specs.Condition.{TermOf, negation, nested, comparison, null_test, between, within, ConjOf, no_term, and_term, CondOf, no_conj, or_conj}
use Rattle.im_syntax.specs.BoundFits.{value_at}

-- a truth, behind NOT where that is written
abbrev pub with_not : Bool → Truth → Truth
with_not true t = truth.negated t
with_not false t = t

-- IS NULL is never unknown
abbrev pub null_truth : Value → Truth
null_truth v = if is_null v then Yes else No

-- BETWEEN holds its ends
abbrev pub between_truth : Value → Value → Value → Truth
between_truth v low high = truth.and (compare v Ge low) (compare v Le high)

-- IN is an OR of equalities
abbrev pub within_truth : Value → List Value → Truth
within_truth v [] = No
within_truth v (x ∷ xs) = truth.or (compare v Eq x) (within_truth v xs)

-- a test, an AND of tests, and an OR of those
abbrev mutual
  pub truth_of_test : TermOf ℕ Value → List Value → Truth
  truth_of_test (comparison column cmp value) row = compare (value_at row column) cmp value
  truth_of_test (null_test column negated) row = with_not negated (null_truth (value_at row column))
  truth_of_test (between column negated low high) row = with_not negated (between_truth (value_at row column) low high)
  truth_of_test (within column negated values) row = with_not negated (within_truth (value_at row column) values)
  truth_of_test (negation t) row = truth.negated (truth_of_test t row)
  truth_of_test (nested f) row = truth_of f row

  pub truth_of_tests : ConjOf ℕ Value → List Value → Truth
  truth_of_tests no_term row = Yes
  truth_of_tests (and_term t ts) row = truth.and (truth_of_test t row) (truth_of_tests ts row)

  pub truth_of : CondOf ℕ Value → List Value → Truth
  truth_of no_conj row = No
  truth_of (or_conj ts f) row = truth.or (truth_of_tests ts row) (truth_of f row)
