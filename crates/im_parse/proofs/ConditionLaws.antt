-- Conditions are read as they are spelled, at each depth.
use Rattle.std.proofs.Common.{◌≡◌, ℕ, zero, suc, Bool, true, false, List, [], ◌∷◌, ◌++◌, Option, Some, None, refl, ap}
use Rattle.std.specs.List.{AllByRecursion}
use Rattle.im_readers.specs.Reading.{Read, nothing}
use Rattle.im_readers.specs.Grammar.{begins_with, Reads, never, GoodJoined, GoodBoth, spell_joined, spell_others, goes_joined, goes_optional, goes_behind}
use Rattle.im_readers.proofs.Parts.{Makes, both_law, made_law, after_law, before_law, optional_law, GoodFirst, Choice, chosen, none_chosen, FirstKind, first_kind, picked_law}
use Rattle.im_readers.proofs.Joined.{joined_law, goes_joined-false}
use Rattle.im_values.specs.declared.limits.TheConstants.{MOST_LEVELS}
use Rattle.im_syntax.specs.declared.keyword.Keyword.TheVariants as key
use Rattle.im_syntax.specs.declared.token.Token.{Token}
use Rattle.im_syntax.specs.declared.token.Token.TheVariants as token
use Rattle.im_syntax.specs.declared.token.Sign.TheVariants as sign
use Rattle.im_syntax.specs.declared.literal.Lit.{Lit}
use Rattle.im_syntax.specs.Condition.{TermOf, negation, nested, comparison, null_test, between, within, ConjOf, no_term, and_term, CondOf, no_conj, or_conj, conj_of, terms_of, cond_of, conjs_of}
use Rattle.im_syntax.specs.Words.{IsName}
use Rattle.im_syntax.specs.Rules.{IsTerm, IsConj, AreTerms, IsCond, AreConjs, IsWhere}
use Rattle.im_syntax.specs.Spelling.{word, spell_term, spell_conj, spell_and, spell_cond, spell_or, spell_where}
use Rattle.im_parse.specs.inner.Marks.{is_key, Lead, keyword, name, parenthesis, lead}
use Rattle.im_parse.specs.inner.Conditions.{from_to, among, Tail, compared, is_null, ranged, test_of, test_at, negation_with, nested_with, term_by, term_at, cond_at, conj_with, cond_with}
use Rattle.im_parse.specs.inner.Queries.{where_at}
use Rattle.im_parse.proofs.MarkLaws.{Ends-never, key_mark, left_mark, right_mark, after_word_law, name_law, some_name, unknown}
use Rattle.im_parse.proofs.TestLaws.{GoodTail, spell_tail, tail_law}

abbrev Written : Type 0
Written = TermOf (List ℕ) Lit

-- ---- the kind of a term

abbrev first_term : Written → Lead
first_term (negation t) = keyword key.Not
first_term (nested c) = parenthesis
first_term (comparison c m v) = name
first_term (null_test c n) = name
first_term (between c n l h) = name
first_term (within c n vs) = name

term_firsts : (d : ℕ) (t : Written) → IsTerm d t → FirstKind lead (first_term t) (spell_term t)
term_firsts d (negation t) g = first_kind (word key.Not) (spell_term t) refl
term_firsts d (nested c) g = first_kind (token.Sign sign.LeftParen) _ refl
term_firsts zero (comparison c m v) g = first_kind (token.Word c) _ refl
term_firsts (suc d) (comparison c m v) g = first_kind (token.Word c) _ refl
term_firsts zero (null_test c n) g = first_kind (token.Word c) _ refl
term_firsts (suc d) (null_test c n) g = first_kind (token.Word c) _ refl
term_firsts zero (between c n l h) g = first_kind (token.Word c) _ refl
term_firsts (suc d) (between c n l h) g = first_kind (token.Word c) _ refl
term_firsts zero (within c n vs) g = first_kind (token.Word c) _ refl
term_firsts (suc d) (within c n vs) g = first_kind (token.Word c) _ refl

-- ---- tests of columns

test_forth : (d : ℕ) (c : List ℕ) (t : Tail) → IsName c → GoodTail t → GoodFirst (IsTerm d) first_term name (test_of (c, t))
test_forth zero c (compared m v) n g = record { is_good = n; is_first = refl }
test_forth (suc d) c (compared m v) n g = record { is_good = n; is_first = refl }
test_forth zero c (is_null b) n g = record { is_good = n; is_first = refl }
test_forth (suc d) c (is_null b) n g = record { is_good = n; is_first = refl }
test_forth zero c (ranged b (from_to l h)) n g = record { is_good = n; is_first = refl }
test_forth (suc d) c (ranged b (from_to l h)) n g = record { is_good = n; is_first = refl }
test_forth zero c (ranged b (among vs)) n g = record { is_good = (n, g); is_first = refl }
test_forth (suc d) c (ranged b (among vs)) n g = record { is_good = (n, g); is_first = refl }

test_back : (d : ℕ) (t : Written) → IsTerm d t → first_term t ≡ name → Makes test_of (GoodBoth IsName GoodTail) t
test_back d (negation t) g e = absurd cc
test_back d (nested c) g e = absurd cc
test_back zero (comparison c m v) g e = record { of = (c, compared m v); is = refl; is_good = (g, tt) }
test_back (suc d) (comparison c m v) g e = record { of = (c, compared m v); is = refl; is_good = (g, tt) }
test_back zero (null_test c n) g e = record { of = (c, is_null n); is = refl; is_good = (g, tt) }
test_back (suc d) (null_test c n) g e = record { of = (c, is_null n); is = refl; is_good = (g, tt) }
test_back zero (between c n l h) g e = record { of = (c, ranged n (from_to l h)); is = refl; is_good = (g, tt) }
test_back (suc d) (between c n l h) g e = record { of = (c, ranged n (from_to l h)); is = refl; is_good = (g, tt) }
test_back zero (within c n vs) g e = record { of = (c, ranged n (among vs)); is = refl; is_good = (g.0, g.1) }
test_back (suc d) (within c n vs) g e = record { of = (c, ranged n (among vs)); is = refl; is_good = (g.0, g.1) }

test_spells : (c : List ℕ) (t : Tail) → spell_term (test_of (c, t)) ≡ token.Word c ∷ spell_tail t
test_spells c (ranged b (from_to l h)) = refl
test_spells c t = refl

test_goes : (c : List ℕ) (t : Tail) (u : Token) → false ≡ goes_behind (spell_tail t) (never c) (never t) u
test_goes c (ranged false (from_to l h)) u = refl
test_goes c t u = refl

test_law : (d : ℕ) → Reads spell_term (GoodFirst (IsTerm d) first_term name) never test_at
unfolding test_at
test_law d =
    made_law spell_term (GoodFirst (IsTerm d) first_term name) never test_of
    (both_law name_law tail_law (λ a b _ _. Ends-never a (spell_tail b)))
    (λ x g. test_forth d x.0 x.1 g.0 g.1)
    (λ t g. test_back d t g.is_good g.is_first)
    (λ x. test_spells x.0 x.1)
    (λ x u. test_goes x.0 x.1 u)

-- ---- conjunctions

conj_spells : (ts : List Written) → spell_and (conj_of ts) ≡ spell_others (word key.And) spell_term ts
conj_spells [] = refl
conj_spells (t ∷ ts) = ap (λ (x : List Token). word key.And ∷ (spell_term t ++ x)) (conj_spells ts)

conj_spelled : (ts : List Written) → spell_conj (conj_of ts) ≡ spell_joined (word key.And) spell_term ts
conj_spelled [] = refl
conj_spelled (t ∷ ts) = ap (λ (x : List Token). spell_term t ++ x) (conj_spells ts)

terms-conj : (ts : List Written) → terms_of (conj_of ts) ≡ ts
terms-conj [] = refl
terms-conj (t ∷ ts) = ap (λ (x : List Written). t ∷ x) (terms-conj ts)

conj-terms : (c : ConjOf (List ℕ) Lit) → conj_of (terms_of c) ≡ c
conj-terms no_term = refl
conj-terms (and_term t ts) = ap (λ x. and_term t x) (conj-terms ts)

terms_forth : (d : ℕ) (ts : List Written) → AllByRecursion (IsTerm d) ts → AreTerms d (conj_of ts)
terms_forth d [] g = tt
terms_forth d (t ∷ ts) g = (g.0, terms_forth d ts g.1)

terms_back : (d : ℕ) (c : ConjOf (List ℕ) Lit) → AreTerms d c → AllByRecursion (IsTerm d) (terms_of c)
terms_back d no_term g = tt
terms_back d (and_term t ts) g = (g.0, terms_back d ts g.1)

conj_forth : (d : ℕ) (ts : List Written) → GoodJoined (IsTerm d) ts → IsConj d (conj_of ts)
conj_forth d [] g = absurd g.0
conj_forth d (t ∷ ts) g = (g.1.0, terms_forth d ts g.1.1)

conj_good : (d : ℕ) (c : ConjOf (List ℕ) Lit) → IsConj d c → GoodJoined (IsTerm d) (terms_of c)
conj_good d no_term g = absurd g
conj_good d (and_term t ts) g = (tt, (g.0, terms_back d ts g.1))

-- an AND goes on
abbrev pub goes_conj : ConjOf (List ℕ) Lit → Token → Bool
goes_conj c = goes_joined (word key.And) (is_key key.And) spell_term never (terms_of c)

conj_law : (d : ℕ) (p : List Token → Read Token Written) → Reads spell_term (IsTerm d) never p → Reads spell_conj (IsConj d) goes_conj (conj_with p)
conj_law d p lp =
    made_law spell_conj (IsConj d) goes_conj conj_of
    (joined_law (key_mark key.And) lp (λ a g. refl))
    (conj_forth d)
    (λ c g. record { of = terms_of c; is = conj-terms c; is_good = conj_good d c g })
    conj_spelled
    (λ ts t. ap (λ (x : List Written). goes_joined (word key.And) (is_key key.And) spell_term never x t) (terms-conj ts))

goes_conj-false : (d : ℕ) (t : Token) → is_key key.And t ≡ false → (c : ConjOf (List ℕ) Lit) → IsConj d c → goes_conj c t ≡ false
goes_conj-false d t e c g = goes_joined-false (word key.And) (is_key key.And) spell_term (IsTerm d) never t e (λ a h. refl) (terms_of c) (conj_good d c g)

-- ---- conditions

cond_spells : (cs : List (ConjOf (List ℕ) Lit)) → spell_or (cond_of cs) ≡ spell_others (word key.Or) spell_conj cs
cond_spells [] = refl
cond_spells (c ∷ cs) = ap (λ (x : List Token). word key.Or ∷ (spell_conj c ++ x)) (cond_spells cs)

cond_spelled : (cs : List (ConjOf (List ℕ) Lit)) → spell_cond (cond_of cs) ≡ spell_joined (word key.Or) spell_conj cs
cond_spelled [] = refl
cond_spelled (c ∷ cs) = ap (λ (x : List Token). spell_conj c ++ x) (cond_spells cs)

conjs-cond : (cs : List (ConjOf (List ℕ) Lit)) → conjs_of (cond_of cs) ≡ cs
conjs-cond [] = refl
conjs-cond (c ∷ cs) = ap (λ (x : List (ConjOf (List ℕ) Lit)). c ∷ x) (conjs-cond cs)

cond-conjs : (c : CondOf (List ℕ) Lit) → cond_of (conjs_of c) ≡ c
cond-conjs no_conj = refl
cond-conjs (or_conj c cs) = ap (λ x. or_conj c x) (cond-conjs cs)

conjs_forth : (d : ℕ) (cs : List (ConjOf (List ℕ) Lit)) → AllByRecursion (IsConj d) cs → AreConjs d (cond_of cs)
conjs_forth d [] g = tt
conjs_forth d (c ∷ cs) g = (g.0, conjs_forth d cs g.1)

conjs_back : (d : ℕ) (c : CondOf (List ℕ) Lit) → AreConjs d c → AllByRecursion (IsConj d) (conjs_of c)
conjs_back d no_conj g = tt
conjs_back d (or_conj c cs) g = (g.0, conjs_back d cs g.1)

cond_forth : (d : ℕ) (cs : List (ConjOf (List ℕ) Lit)) → GoodJoined (IsConj d) cs → IsCond d (cond_of cs)
cond_forth d [] g = absurd g.0
cond_forth d (c ∷ cs) g = (g.1.0, conjs_forth d cs g.1.1)

cond_good : (d : ℕ) (c : CondOf (List ℕ) Lit) → IsCond d c → GoodJoined (IsConj d) (conjs_of c)
cond_good d no_conj g = absurd g
cond_good d (or_conj c cs) g = (tt, (g.0, conjs_back d cs g.1))

-- an OR goes on, and an AND
abbrev pub goes_cond : CondOf (List ℕ) Lit → Token → Bool
goes_cond c = goes_joined (word key.Or) (is_key key.Or) spell_conj goes_conj (conjs_of c)

cond_with_law : (d : ℕ) (p : List Token → Read Token Written) → Reads spell_term (IsTerm d) never p → Reads spell_cond (IsCond d) goes_cond (cond_with p)
cond_with_law d p lp =
    made_law spell_cond (IsCond d) goes_cond cond_of
    (joined_law (key_mark key.Or) (conj_law d p lp) (λ c g. goes_conj-false d (word key.Or) refl c g))
    (cond_forth d)
    (λ c g. record { of = conjs_of c; is = cond-conjs c; is_good = cond_good d c g })
    cond_spelled
    (λ cs t. ap (λ (x : List (ConjOf (List ℕ) Lit)). goes_joined (word key.Or) (is_key key.Or) spell_conj goes_conj x t) (conjs-cond cs))

pub goes_cond-false : (d : ℕ) (t : Token) → is_key key.Or t ≡ false → is_key key.And t ≡ false → (c : CondOf (List ℕ) Lit) → IsCond d c → goes_cond c t ≡ false
goes_cond-false d t no_or no_and c g =
    goes_joined-false (word key.Or) (is_key key.Or) spell_conj (IsConj d) goes_conj t no_or (λ a h. goes_conj-false d t no_and a h) (conjs_of c)
    (cond_good d c g)

-- ---- terms

abbrev is_plain : Lead → Bool
is_plain name = true
is_plain l = false

all_plain : (t : Written) → IsTerm 0 t → is_plain (first_term t) ≡ true
all_plain (negation t) g = absurd g
all_plain (nested c) g = absurd g
all_plain t g = refl

flat_choices : (l : Lead) → Choice spell_term (IsTerm 0) never first_term l (term_by nothing nothing l)
flat_choices name = chosen (test_law 0)
flat_choices (keyword key.Not) = none_chosen (λ ts. refl) (unknown is_plain (IsTerm 0) first_term all_plain (keyword key.Not) refl)
flat_choices parenthesis = none_chosen (λ ts. refl) (unknown is_plain (IsTerm 0) first_term all_plain parenthesis refl)
flat_choices l = none_chosen (λ ts. refl) (unknown is_plain (IsTerm 0) first_term all_plain l refl)

abbrev is_term : Lead → Bool
is_term (keyword key.Not) = true
is_term parenthesis = true
is_term name = true
is_term l = false

all_terms : (d : ℕ) (t : Written) → IsTerm d t → is_term (first_term t) ≡ true
all_terms d (negation t) g = refl
all_terms d t g = refl

negation_back : (d : ℕ) (t : Written) → IsTerm (suc d) t → first_term t ≡ (keyword key.Not) → Makes negation (IsTerm d) t
negation_back d (negation t) g e = record { of = t; is = refl; is_good = g }
negation_back d t g e = absurd cc

nested_back : (d : ℕ) (t : Written) → IsTerm (suc d) t → first_term t ≡ parenthesis → Makes nested (IsCond d) t
nested_back d (nested c) g e = record { of = c; is = refl; is_good = g }
nested_back d t g e = absurd cc

deep_choices : (d : ℕ) (p : List Token → Read Token Written) → Reads spell_term (IsTerm d) never p
    → (l : Lead) → Choice spell_term (IsTerm (suc d)) never first_term l (term_by (negation_with p) (nested_with p) l)
deep_choices d p lp (keyword key.Not) =
    chosen (made_law spell_term (GoodFirst (IsTerm (suc d)) first_term (keyword key.Not)) never negation (after_word_law key.Not lp)
    (λ t g. record { is_good = g; is_first = refl }) (λ t g. negation_back d t g.is_good g.is_first) (λ t. refl) (λ t u. refl))
deep_choices d p lp parenthesis =
    chosen (made_law spell_term (GoodFirst (IsTerm (suc d)) first_term parenthesis) never nested
    (after_law left_mark (before_law right_mark (cond_with_law d p lp) (λ c g. goes_cond-false d (token.Sign sign.RightParen) refl refl c g)))
    (λ c g. record { is_good = g; is_first = refl }) (λ t g. nested_back d t g.is_good g.is_first) (λ c. refl) (λ c u. refl))
deep_choices d p lp name = chosen (test_law (suc d))
deep_choices d p lp l = none_chosen (λ ts. refl) (unknown is_term (IsTerm (suc d)) first_term (all_terms (suc d)) l refl)

some_term : (d : ℕ) → IsTerm d (null_test (65 ∷ []) false)
some_term zero = some_name
some_term (suc d) = some_name

pub term_law : (d : ℕ) → Reads spell_term (IsTerm d) never (term_at d)
unfolding term_at
term_law zero = picked_law spell_term (IsTerm 0) never lead (term_by nothing nothing) first_term (null_test (65 ∷ []) false) (some_term 0)
    (term_firsts 0) flat_choices
term_law (suc d) =
    picked_law spell_term (IsTerm (suc d)) never lead (term_by (negation_with (term_at d)) (nested_with (term_at d))) first_term (null_test (65 ∷ []) false)
    (some_term (suc d))
    (term_firsts (suc d)) (deep_choices d (term_at d) (term_law d))

pub cond_law : (d : ℕ) → Reads spell_cond (IsCond d) goes_cond (cond_at d)
unfolding cond_at
cond_law d = cond_with_law d (term_at d) (term_law d)

-- ---- WHERE

-- WHERE goes on where there is none, and what goes on behind the condition
abbrev pub goes_where : Option (CondOf (List ℕ) Lit) → Token → Bool
goes_where = goes_optional (is_key key.Where) goes_cond

pub where_law : Reads spell_where IsWhere goes_where where_at
unfolding where_at
where_law = optional_law (is_key key.Where) (after_word_law key.Where (cond_law MOST_LEVELS)) (λ c g. begins_with (word key.Where) (spell_cond c) refl)

pub goes_where-false : (t : Token) → is_key key.Where t ≡ false → is_key key.Or t ≡ false → is_key key.And t ≡ false
    → (c : Option (CondOf (List ℕ) Lit)) → IsWhere c → goes_where c t ≡ false
goes_where-false t no_where no_or no_and None g = no_where
goes_where-false t no_where no_or no_and (Some c) g = goes_cond-false MOST_LEVELS t no_or no_and c g
