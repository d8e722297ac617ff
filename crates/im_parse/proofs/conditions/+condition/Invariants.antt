use Rattle.std.proofs.Common.{◌≡◌, ◌∷◌, ◌+◌, ◌-◌, ◌*◌, length}
use Rattle.im_readers.specs.Reading.{Found, and_then, further}
use Rattle.im_readers.proofs.Steps.{with_front}
use Rattle.im_syntax.specs.declared.keyword.Keyword.TheVariants as key
use Rattle.im_parse.specs.inner.Marks.{is_key}
use Rattle.im_parse.specs.inner.Conditions.{term_at, conj_at}
use Rattle.im_parse.proofs.conditions.+condition.Given as goal

abbrev pub decreases-term : goal.decreases-term
decreases-term l = 8 * l.depth + 1

abbrev pub decreases-terms_from : goal.decreases-terms_from
decreases-terms_from l = 8 * l.depth + 2

abbrev pub decreases-conj : goal.decreases-conj
decreases-conj l = 8 * l.depth + 3

abbrev pub decreases-lists_from : goal.decreases-lists_from
decreases-lists_from l = 8 * l.depth + 4

abbrev pub decreases-cond : goal.decreases-cond
decreases-cond l = 8 * l.depth + 5

abbrev pub decreases-negation : goal.decreases-negation
decreases-negation l = 8 * l.inside + 6

abbrev pub decreases-nested : goal.decreases-nested
decreases-nested l = 8 * l.inside + 6

abbrev pub decreases-deep_term : goal.decreases-deep_term
decreases-deep_term l = 8 * l.inside + 7

abbrev pub invariant-terms_from-loop : goal.invariant-terms_from-loop
invariant-terms_from-loop l =
    with_front l.terms.items (further (is_key key.And) (term_at l.depth) (length l.tokens - l.counter) l.rest)
    ≡ and_then (further (is_key key.And) (term_at l.depth) (length l.tokens) l.tokens) (λ xs rest. Found (l.fn.first ∷ xs) rest)

abbrev pub invariant-lists_from-loop : goal.invariant-lists_from-loop
invariant-lists_from-loop l =
    with_front l.lists.items (further (is_key key.Or) (conj_at l.depth) (length l.tokens - l.counter) l.rest)
    ≡ and_then (further (is_key key.Or) (conj_at l.depth) (length l.tokens) l.tokens) (λ xs rest. Found (l.fn.first ∷ xs) rest)
