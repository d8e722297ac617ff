-- What a condition holds is smaller than the condition.
use Rattle.std.specs.Prelude.{◌+◌, ◌≤◌, max, List, [], ◌∷◌}
use Rattle.std.proofs.Common.{arith}
use denote.Param.Weighed.{most}
use Rattle.im_syntax.specs.Condition.{TermTree, ConjTree, conj_of, cond_of, term_size, conj_size, cond_size}

pub terms_fall : {C V L : Type 0} → (ts : List (TermTree C V L)) → max (most (λ t. term_size t + 1) ts) 0 ≤ conj_size (conj_of ts)
terms_fall [] = omega arith
terms_fall (t ∷ ts) = omega (arith, terms_fall ts)

pub conjs_fall : {C V L : Type 0} → (cs : List (ConjTree C V L)) → max (most (λ c. conj_size c + 1) cs) 0 ≤ cond_size (cond_of cs)
conjs_fall [] = omega arith
conjs_fall (c ∷ cs) = omega (arith, conjs_fall cs)
