-- How a condition is read.
use Rattle.std.specs.Prelude.{ℕ, zero, suc, Bool, true, false, List, is_some}
use Rattle.im_readers.specs.Reading.{Read, nothing, both, made, after, before, optional, picked, joined}
use Rattle.im_values.specs.declared.comparison.Cmp.{Cmp}
use Rattle.im_syntax.specs.declared.keyword.Keyword.TheVariants as key
use Rattle.im_syntax.specs.declared.token.Token.{Token}
use Rattle.im_syntax.specs.declared.literal.Lit.{Lit}
use Rattle.im_syntax.specs.Condition.{TermOf, negation, nested, comparison, null_test, between, within, ConjOf, CondOf, conj_of, cond_of}
use Rattle.im_parse.specs.inner.Marks.{is_key, Lead, keyword, name, parenthesis, relation, lead, is_left, is_right, is_comma, word_at, after_word, before_word, name_at, lit_at, cmp_at}

-- what stands behind BETWEEN, or behind IN
pub data Range : Type 0 where
  from_to : Lit → Lit → Range
  among : List Lit → Range

-- what stands behind the column of a test
pub data Tail : Type 0 where
  compared : Cmp → Lit → Tail
  is_null : Bool → Tail
  ranged : Bool → Range → Tail

-- the test of a column
abbrev pub test_of : List ℕ × Tail → TermOf (List ℕ) Lit
test_of (column, compared cmp value) = comparison column cmp value
test_of (column, is_null negated) = null_test column negated
test_of (column, ranged negated (from_to low high)) = between column negated low high
test_of (column, ranged negated (among values)) = within column negated values

-- ---- tests

-- literals in parentheses
unfoldable pub tuple_at : List Token → Read Token (List Lit)
tuple_at = after is_left (before (joined is_comma lit_at) is_right)

-- NOT, where it stands
unfoldable pub not_at : List Token → Read Token Bool
not_at = made is_some (optional (is_key key.Not) (word_at key.Not))

unfoldable pub between_at : List Token → Read Token Range
between_at = made (λ x. from_to x.0 x.1) (after_word key.Between (both lit_at (after_word key.And lit_at)))

unfoldable pub in_at : List Token → Read Token Range
in_at = made among (after_word key.In tuple_at)

abbrev pub range_by : Lead → List Token → Read Token Range
range_by (keyword key.Between) = between_at
range_by (keyword key.In) = in_at
range_by l = nothing

unfoldable pub range_at : List Token → Read Token Range
range_at = picked lead range_by

unfoldable pub comparison_at : List Token → Read Token Tail
comparison_at = made (λ x. compared x.0 x.1) (both cmp_at lit_at)

unfoldable pub null_at : List Token → Read Token Tail
null_at = made is_null (after_word key.Is (before_word not_at key.Null))

unfoldable pub not_ranged_at : List Token → Read Token Tail
not_ranged_at = made (ranged true) (after_word key.Not range_at)

-- behind a column stand a comparison, IS, NOT, BETWEEN or IN
abbrev pub tail_by : Lead → List Token → Read Token Tail
tail_by (keyword key.Is) = null_at
tail_by (keyword key.Not) = not_ranged_at
tail_by (keyword key.Between) = made (ranged false) between_at
tail_by (keyword key.In) = made (ranged false) in_at
tail_by relation = comparison_at
tail_by l = nothing

unfoldable pub tail_at : List Token → Read Token Tail
tail_at = picked lead tail_by

-- a test of a column
unfoldable pub test_at : List Token → Read Token (TermOf (List ℕ) Lit)
test_at = made test_of (both name_at tail_at)

-- ---- conditions

-- AND between terms, and OR between conjunctions
abbrev pub conj_with : (List Token → Read Token (TermOf (List ℕ) Lit)) → List Token → Read Token (ConjOf (List ℕ) Lit)
conj_with term = made conj_of (joined (is_key key.And) term)

abbrev pub cond_with : (List Token → Read Token (TermOf (List ℕ) Lit)) → List Token → Read Token (CondOf (List ℕ) Lit)
cond_with term = made cond_of (joined (is_key key.Or) (conj_with term))

-- a term behind NOT, and a condition in parentheses, where terms are read so
abbrev pub negation_with : (List Token → Read Token (TermOf (List ℕ) Lit)) → List Token → Read Token (TermOf (List ℕ) Lit)
negation_with term = made negation (after_word key.Not term)

abbrev pub nested_with : (List Token → Read Token (TermOf (List ℕ) Lit)) → List Token → Read Token (TermOf (List ℕ) Lit)
nested_with term = made nested (after is_left (before (cond_with term) is_right))

-- a term by its first token
abbrev pub term_by : (negated inside : List Token → Read Token (TermOf (List ℕ) Lit)) → Lead
    → List Token → Read Token (TermOf (List ℕ) Lit)
term_by negated inside (keyword key.Not) = negated
term_by negated inside parenthesis = inside
term_by negated inside name = test_at
term_by negated inside l = nothing

-- a term in which NOT and parentheses nest at most so deep
unfoldable pub term_at : ℕ → List Token → Read Token (TermOf (List ℕ) Lit)
term_at zero = picked lead (term_by nothing nothing)
term_at (suc d) = picked lead (term_by (negation_with (term_at d)) (nested_with (term_at d)))

unfoldable pub conj_at : ℕ → List Token → Read Token (ConjOf (List ℕ) Lit)
conj_at d = conj_with (term_at d)

unfoldable pub cond_at : ℕ → List Token → Read Token (CondOf (List ℕ) Lit)
cond_at d = cond_with (term_at d)

-- the same, by what may stand inside
unfoldable pub flat_term_at : List Token → Read Token (TermOf (List ℕ) Lit)
flat_term_at = picked lead (term_by nothing nothing)

unfoldable pub negation_at : ℕ → List Token → Read Token (TermOf (List ℕ) Lit)
negation_at inside = made negation (after_word key.Not (term_at inside))

unfoldable pub nested_at : ℕ → List Token → Read Token (TermOf (List ℕ) Lit)
nested_at inside = made nested (after is_left (before (cond_at inside) is_right))

unfoldable pub deep_term_at : ℕ → List Token → Read Token (TermOf (List ℕ) Lit)
deep_term_at inside = picked lead (term_by (negation_at inside) (nested_at inside))
