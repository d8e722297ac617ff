-- General laws of tests.
use Rattle.std.proofs.Common.{◌≡◌, ℕ, Bool, true, false, ◌==◌, ◌&&◌, ◌||◌, ⊎_elim, refl, sym, ◌∙◌, ne_eqb}
use Rattle.std.proofs.lemmas.Bool.{cases_eq, false≢true}

-- where both pass, each does
pub and-true : (a b : Bool) → a && b ≡ true → (a ≡ true) × (b ≡ true)
and-true true b both = (refl, both)
and-true false b both = absurd (false≢true both)

-- where neither passes, each does not
pub or-false : (a b : Bool) → a || b ≡ false → (a ≡ false) × (b ≡ false)
or-false true b neither = absurd (false≢true (sym neither))
or-false false b neither = (refl, neither)

-- two numbers are equal where their test says so
pub eq-true : (m n : ℕ) → (m == n) ≡ true → m ≡ n
eq-true m n is = ⊎_elim (λ (e : m ≡ n). e) (λ (apart : m ≡ n → ⊥). absurd (false≢true (sym (ne_eqb m n apart) ∙ is))) (cases_eq m n)
