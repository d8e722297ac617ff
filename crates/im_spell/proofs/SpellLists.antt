-- The tokens of a condition, one part after the other.
use Rattle.std.proofs.Common.{◌≡◌, ℕ, suc, List, [], ◌∷◌, ◌++◌, refl, sym, ap, ◌∙◌, arith, Bool, true, false, cond}
use Rattle.std.proofs.lemmas.Bool.Decides.{nat_tests}
use Rattle.std.specs.Prelude.{◌==◌, if◌then◌else◌}
use Rattle.im_syntax.specs.declared.keyword.Keyword.TheVariants as key
use Rattle.im_syntax.specs.declared.token.Token.{Token}
use Rattle.im_syntax.specs.declared.literal.Lit.{Lit}
use Rattle.im_syntax.specs.Condition.{TermOf, ConjOf, conj_of, cond_of}
use Rattle.im_syntax.specs.Spelling.{word, spell_term, spell_conj, spell_and, spell_cond, spell_or}

-- the tokens of the parts from the i-th on
abbrev pub conj_from : ℕ → List (TermOf (List ℕ) Lit) → List Token
conj_from i ts = if i == 0 then spell_conj (conj_of ts) else spell_and (conj_of ts)

abbrev pub cond_from : ℕ → List (ConjOf (List ℕ) Lit) → List Token
cond_from i cs = if i == 0 then spell_cond (cond_of cs) else spell_or (cond_of cs)

abbrev word_and : ℕ → List Token
word_and i = if i == 0 then [] else (word key.And ∷ [])

abbrev word_or : ℕ → List Token
word_or i = if i == 0 then [] else (word key.Or ∷ [])

not_first : (i : ℕ) → (suc i == 0) ≡ false
not_first i = grind (arith, nat_tests)

first_or : (b : Bool) (w : Token) (ts : List Token) → cond b ts (w ∷ ts) ≡ cond b [] (w ∷ []) ++ ts
first_or true w ts = refl
first_or false w ts = refl

either_nil : (b : Bool) → cond b (spell_conj (conj_of [])) (spell_and (conj_of [])) ≡ []
either_nil true = refl
either_nil false = refl

conj_from-cons : (i : ℕ) (t : TermOf (List ℕ) Lit) (ts : List (TermOf (List ℕ) Lit))
    → conj_from i (t ∷ ts) ≡ word_and i ++ (spell_term t ++ conj_from (suc i) ts)
conj_from-cons i t ts =
    first_or (i == 0) (word key.And) (spell_term t ++ spell_and (conj_of ts))
    ∙ ap (λ (b : Bool). word_and i ++ (spell_term t ++ cond b (spell_conj (conj_of ts)) (spell_and (conj_of ts)))) (sym (not_first i))

cond_from-cons : (i : ℕ) (c : ConjOf (List ℕ) Lit) (cs : List (ConjOf (List ℕ) Lit))
    → cond_from i (c ∷ cs) ≡ word_or i ++ (spell_conj c ++ cond_from (suc i) cs)
cond_from-cons i c cs =
    first_or (i == 0) (word key.Or) (spell_conj c ++ spell_or (cond_of cs))
    ∙ ap (λ (b : Bool). word_or i ++ (spell_conj c ++ cond b (spell_cond (cond_of cs)) (spell_or (cond_of cs)))) (sym (not_first i))

conj_from-nil : (i : ℕ) → conj_from i [] ≡ []
conj_from-nil i = either_nil (i == 0)

cond_from-nil : (i : ℕ) → cond_from i [] ≡ []
cond_from-nil i = either_nil (i == 0)
