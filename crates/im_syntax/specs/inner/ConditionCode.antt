-- How a condition is kept where a contract compares it: one tree of numbers for each.
use Rattle.std.specs.Prelude.{◌≡◌, ℕ}
use Rattle.std.specs.Coded.{Coded, coded_bool}
use base.Stored.{Gv, gnil, gnum, gcons}
use Rattle.std.proofs.Common.{ap, refl, arith}
use Rattle.im_values.specs.declared.comparison.Cmp.{Cmp}
use Rattle.im_syntax.specs.Condition.{TermTree, negation, nested, comparison, null_test, between, within, ConjTree, no_term, and_term, CondTree, no_conj, or_conj}

abbrev pub left : Gv → Gv
left gnil = gnil
left (gnum n) = gnil
left (gcons a b) = a

abbrev pub right : Gv → Gv
right gnil = gnil
right (gnum n) = gnil
right (gcons a b) = b

abbrev pub number : Gv → ℕ
number gnil = 0
number (gnum n) = n
number (gcons a b) = 0

module _ {C V L : Type 0} (c : Coded C) (m : Coded Cmp) (v : Coded V) (l : Coded L) where
  abbrev mutual
    pub term_code : TermTree C V L → Gv
    term_code (negation t) = gcons (gnum 0) (term_code t)
    term_code (nested t) = gcons (gnum 1) (cond_code t)
    term_code (comparison column cmp value) = gcons (gnum 2) (gcons (c.code column) (gcons (m.code cmp) (v.code value)))
    term_code (null_test column negated) = gcons (gnum 3) (gcons (c.code column) (coded_bool.code negated))
    term_code (between column negated low high) =
        gcons (gnum 4) (gcons (c.code column) (gcons (coded_bool.code negated) (gcons (v.code low) (v.code high))))
    term_code (within column negated values) =
        gcons (gnum 5) (gcons (c.code column) (gcons (coded_bool.code negated) (l.code values)))

    pub conj_code : ConjTree C V L → Gv
    conj_code no_term = gnil
    conj_code (and_term t ts) = gcons (term_code t) (conj_code ts)

    pub cond_code : CondTree C V L → Gv
    cond_code no_conj = gnil
    cond_code (or_conj t ts) = gcons (conj_code t) (cond_code ts)

  mutual
    pub term_inj : (x y : TermTree C V L) → term_code x ≡ term_code y → x ≡ y
    term_inj (negation x) (negation y) p = ap negation (term_inj x y (ap right p))
    term_inj (nested x) (nested y) p = ap nested (cond_inj x y (ap right p))
    term_inj (comparison a x b) (comparison a2 x2 b2) p = λ i.
        comparison
        (c.inj a a2 (ap (λ g. left (right g)) p) i)
        (m.inj x x2 (ap (λ g. left (right (right g))) p) i)
        (v.inj b b2 (ap (λ g. right (right (right g))) p) i)
    term_inj (null_test a n) (null_test a2 n2) p = λ i.
        null_test
        (c.inj a a2 (ap (λ g. left (right g)) p) i)
        (coded_bool.inj n n2 (ap (λ g. right (right g)) p) i)
    term_inj (between a n l h) (between a2 n2 l2 h2) p = λ i.
        between
        (c.inj a a2 (ap (λ g. left (right g)) p) i)
        (coded_bool.inj n n2 (ap (λ g. left (right (right g))) p) i)
        (v.inj l l2 (ap (λ g. left (right (right (right g)))) p) i)
        (v.inj h h2 (ap (λ g. right (right (right (right g)))) p) i)
    term_inj (within a n vs) (within a2 n2 vs2) p = λ i.
        within
        (c.inj a a2 (ap (λ g. left (right g)) p) i)
        (coded_bool.inj n n2 (ap (λ g. left (right (right g))) p) i)
        (l.inj vs vs2 (ap (λ g. right (right (right g))) p) i)
    term_inj x y p = absurd (omega (arith, ap (λ g. number (left g)) p))

    pub conj_inj : (x y : ConjTree C V L) → conj_code x ≡ conj_code y → x ≡ y
    conj_inj no_term no_term p = refl
    conj_inj no_term (and_term y ys) p = absurd cc
    conj_inj (and_term x xs) no_term p = absurd cc
    conj_inj (and_term x xs) (and_term y ys) p = λ i. and_term (term_inj x y (ap left p) i) (conj_inj xs ys (ap right p) i)

    pub cond_inj : (x y : CondTree C V L) → cond_code x ≡ cond_code y → x ≡ y
    cond_inj no_conj no_conj p = refl
    cond_inj no_conj (or_conj y ys) p = absurd cc
    cond_inj (or_conj x xs) no_conj p = absurd cc
    cond_inj (or_conj x xs) (or_conj y ys) p = λ i. or_conj (conj_inj x y (ap left p) i) (cond_inj xs ys (ap right p) i)

  abbrev pub coded_term : Coded (TermTree C V L)
  coded_term = record { code = term_code; inj = term_inj }

  abbrev pub coded_conj : Coded (ConjTree C V L)
  coded_conj = record { code = conj_code; inj = conj_inj }

  abbrev pub coded_cond : Coded (CondTree C V L)
  coded_cond = record { code = cond_code; inj = cond_inj }
