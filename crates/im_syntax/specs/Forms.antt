-- The forms of terms, as terms of the tree.
use Rattle.im_syntax.specs.declared.condition.FormOf.{FormOf}
use Rattle.im_syntax.specs.declared.condition.FormOf.TheVariants as form
use Rattle.im_syntax.specs.Condition.{TermTree, negation, nested, comparison, null_test, between, within}

-- the term of a form
abbrev pub term_of_form : {C V L : Type 0} → FormOf C V L → TermTree C V L
term_of_form (form.Not t) = negation t.value
term_of_form (form.Nest c) = nested c.value
term_of_form (form.Compare column cmp value) = comparison column cmp value
term_of_form (form.IsNull column negated) = null_test column negated
term_of_form (form.Between column negated low high) = between column negated low high
term_of_form (form.Within column negated values) = within column negated values
