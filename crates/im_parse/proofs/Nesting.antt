-- What may stand inside a term.
use Rattle.std.proofs.Common.{◌≡◌, ℕ, suc, ◌-◌, ◌<◌, List, refl, ap, ◌∙◌, arith}
use Rattle.im_syntax.specs.declared.token.Token.{Token}
use Rattle.im_parse.specs.inner.Conditions.{term_at, cond_at, flat_term_at, deep_term_at, negation_at, nested_at}

pub term_at-zero : (ts : List Token) → term_at 0 ts ≡ flat_term_at ts
unfolding term_at flat_term_at
term_at-zero ts = refl

pub term_at-suc : (d : ℕ) (ts : List Token) → term_at (suc d) ts ≡ deep_term_at d ts
unfolding term_at deep_term_at cond_at negation_at nested_at
term_at-suc d ts = refl

pub term_at-at_zero : (d : ℕ) (ts : List Token) → d ≡ 0 → term_at d ts ≡ flat_term_at ts
term_at-at_zero d ts e = ap (λ (n : ℕ). term_at n ts) e ∙ term_at-zero ts

pub term_at-more : (d : ℕ) (ts : List Token) → 0 < d → term_at d ts ≡ deep_term_at (d - 1) ts
term_at-more d ts lt = let e : d ≡ suc (d - 1) = omega arith in ap (λ (n : ℕ). term_at n ts) e ∙ term_at-suc (d - 1) ts
