-- Conditions as trees, over any columns, any values and any lists of values.
use Rattle.std.specs.Prelude.{ℕ, suc, ◌+◌, Bool, List, [], ◌∷◌}
use Rattle.im_values.specs.declared.comparison.Cmp.{Cmp}

-- A condition is an OR of conjunctions, a conjunction an AND of terms. The lists are written out, since a tree holds them.
mutual
  pub data TermTree (C V L : Type 0) : Type 0 where
    negation : TermTree C V L → TermTree C V L
    nested : CondTree C V L → TermTree C V L
    comparison : C → Cmp → V → TermTree C V L
    null_test : C → Bool → TermTree C V L
    between : C → Bool → V → V → TermTree C V L
    within : C → Bool → L → TermTree C V L

  pub data ConjTree (C V L : Type 0) : Type 0 where
    no_term : ConjTree C V L
    and_term : TermTree C V L → ConjTree C V L → ConjTree C V L

  pub data CondTree (C V L : Type 0) : Type 0 where
    no_conj : CondTree C V L
    or_conj : ConjTree C V L → CondTree C V L → CondTree C V L

-- conditions as they are seen: an IN has the list of its values
abbrev pub TermOf : Type 0 → Type 0 → Type 0
TermOf C V = TermTree C V (List V)

abbrev pub ConjOf : Type 0 → Type 0 → Type 0
ConjOf C V = ConjTree C V (List V)

abbrev pub CondOf : Type 0 → Type 0 → Type 0
CondOf C V = CondTree C V (List V)

-- the terms of a conjunction, and the conjunctions of a condition
abbrev pub conj_of : {C V L : Type 0} → List (TermTree C V L) → ConjTree C V L
conj_of [] = no_term
conj_of (t ∷ ts) = and_term t (conj_of ts)

abbrev pub terms_of : {C V L : Type 0} → ConjTree C V L → List (TermTree C V L)
terms_of no_term = []
terms_of (and_term t ts) = t ∷ terms_of ts

abbrev pub cond_of : {C V L : Type 0} → List (ConjTree C V L) → CondTree C V L
cond_of [] = no_conj
cond_of (c ∷ cs) = or_conj c (cond_of cs)

abbrev pub conjs_of : {C V L : Type 0} → CondTree C V L → List (ConjTree C V L)
conjs_of no_conj = []
conjs_of (or_conj c cs) = c ∷ conjs_of cs

-- the number of nodes
abbrev mutual
  pub term_size : {C V L : Type 0} → TermTree C V L → ℕ
  term_size (negation t) = suc (term_size t)
  term_size (nested c) = suc (cond_size c)
  term_size (comparison c cmp v) = 1
  term_size (null_test c negated) = 1
  term_size (between c negated low high) = 1
  term_size (within c negated vs) = 1

  pub conj_size : {C V L : Type 0} → ConjTree C V L → ℕ
  conj_size no_term = 1
  conj_size (and_term t ts) = suc (term_size t + conj_size ts)

  pub cond_size : {C V L : Type 0} → CondTree C V L → ℕ
  cond_size no_conj = 1
  cond_size (or_conj c cs) = suc (conj_size c + cond_size cs)
