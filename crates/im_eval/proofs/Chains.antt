-- The parts of a condition fit a row where the whole does.
use Rattle.std.proofs.Common.{◌≡◌, ℕ, zero, suc, ◌<◌, List, [], ◌∷◌, length, get_or, sym, subst, arith}
use Rattle.im_values.specs.declared.content.Content.{Content as Value}
use Rattle.im_syntax.specs.Condition.{TermOf, ConjOf, conj_of, cond_of}
use Rattle.im_syntax.specs.BoundFits.{TestFits, TestsFit, FilterFits}

pub test_fits : (row : List Value) (ts : List (TermOf ℕ Value)) (i : ℕ) (t : TermOf ℕ Value)
    → i < length ts → t ≡ get_or ts i t → TestsFit row (conj_of ts) → TestFits row t
test_fits row [] i t lt e fit = absurd (omega arith)
test_fits row (x ∷ ts) zero t lt e fit = subst (TestFits row) (sym e) fit.0
test_fits row (x ∷ ts) (suc i) t lt e fit = test_fits row ts i t (omega arith) e fit.1

pub tests_fit : (row : List Value) (cs : List (ConjOf ℕ Value)) (i : ℕ) (c : ConjOf ℕ Value)
    → i < length cs → c ≡ get_or cs i c → FilterFits row (cond_of cs) → TestsFit row c
tests_fit row [] i c lt e fit = absurd (omega arith)
tests_fit row (x ∷ cs) zero c lt e fit = subst (TestsFit row) (sym e) fit.0
tests_fit row (x ∷ cs) (suc i) c lt e fit = tests_fit row cs i c (omega arith) e fit.1
