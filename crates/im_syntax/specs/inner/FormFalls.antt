-- What a form holds is smaller than its term.
use Rattle.std.specs.Prelude.{◌≤◌, max}
use Rattle.std.proofs.Common.{arith}
use Rattle.im_syntax.specs.declared.condition.FormOf.{FormOf}
use Rattle.im_syntax.specs.declared.condition.FormOf.TheVariants as form
use Rattle.im_syntax.specs.declared.condition.CondOf.TheDeep.{deep-FormOf}
use Rattle.im_syntax.specs.Condition.{term_size}
use Rattle.im_syntax.specs.Forms.{term_of_form}

pub form_falls : {C V L : Type 0} → (t : FormOf C V L) → max (deep-FormOf C V L t) 0 ≤ term_size (term_of_form t)
form_falls (form.Not t) = omega arith
form_falls (form.Nest c) = omega arith
form_falls (form.Compare column cmp value) = omega arith
form_falls (form.IsNull column negated) = omega arith
form_falls (form.Between column negated low high) = omega arith
form_falls (form.Within column negated values) = omega arith
