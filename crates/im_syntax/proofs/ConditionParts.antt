-- The parts of a condition are smaller than the whole.
use Rattle.std.proofs.Common.{◌≡◌, ℕ, zero, suc, ◌<◌, List, [], ◌∷◌, length, get_or, ap, arith}
use Rattle.im_syntax.specs.Condition.{TermTree, ConjTree, conj_of, cond_of, term_size, conj_size, cond_size}

module _ {C V L : Type 0} where
  pub term_below : (ts : List (TermTree C V L)) (i : ℕ) (t : TermTree C V L) → i < length ts → t ≡ get_or ts i t → term_size t < conj_size (conj_of ts)
  term_below [] i t lt e = absurd (omega arith)
  term_below (x ∷ ts) zero t lt e = let same : term_size t ≡ term_size x = ap term_size e in omega arith
  term_below (x ∷ ts) (suc i) t lt e = let less = term_below ts i t (omega arith) e in omega arith

  pub conj_below : (cs : List (ConjTree C V L)) (i : ℕ) (c : ConjTree C V L) → i < length cs → c ≡ get_or cs i c → conj_size c < cond_size (cond_of cs)
  conj_below [] i c lt e = absurd (omega arith)
  conj_below (x ∷ cs) zero c lt e = let same : conj_size c ≡ conj_size x = ap conj_size e in omega arith
  conj_below (x ∷ cs) (suc i) c lt e = let less = conj_below cs i c (omega arith) e in omega arith
