-- Conditions: the names and values in them in the order of the text, and the filter with numbers for the names.
use Rattle.std.specs.Prelude.{ℕ, List, [], ◌∷◌, ◌++◌, map, Option, Some, None}
use Rattle.std.specs.Option.{option_map}
use Rattle.im_values.specs.declared.schema.Column.{Column}
use Rattle.im_values.specs.declared.content.Content.{Content as Value}
use Rattle.im_syntax.specs.declared.literal.Lit.{Lit}
use Rattle.im_syntax.specs.Condition.{TermOf, negation, nested, comparison, null_test, between, within, ConjOf, no_term, and_term, CondOf, no_conj, or_conj}
use Rattle.im_names.specs.declared.fault.NameFault.{NameFault}
use Rattle.im_names.specs.Faults.{first_fault}
use Rattle.im_names.specs.Lookups.{number_of, of_column}
use Rattle.im_names.specs.Literals.{value_of, compared}

-- the names of columns in a condition, in the order of the text
abbrev mutual
  pub term_names : TermOf (List ℕ) Lit → List (List ℕ)
  term_names (negation t) = term_names t
  term_names (nested c) = cond_names c
  term_names (comparison column cmp v) = column ∷ []
  term_names (null_test column negated) = column ∷ []
  term_names (between column negated low high) = column ∷ []
  term_names (within column negated vs) = column ∷ []

  pub conj_names : ConjOf (List ℕ) Lit → List (List ℕ)
  conj_names no_term = []
  conj_names (and_term t ts) = term_names t ++ conj_names ts

  pub cond_names : CondOf (List ℕ) Lit → List (List ℕ)
  cond_names no_conj = []
  cond_names (or_conj c cs) = conj_names c ++ cond_names cs

-- the values in a condition, each behind the name of the column that it is compared with, in the order of the text
abbrev pub behind : List ℕ → Lit → List ℕ × Lit
behind column v = (column, v)

abbrev mutual
  pub term_values : TermOf (List ℕ) Lit → List (List ℕ × Lit)
  term_values (negation t) = term_values t
  term_values (nested c) = cond_values c
  term_values (comparison column cmp v) = behind column v ∷ []
  term_values (null_test column negated) = []
  term_values (between column negated low high) = behind column low ∷ behind column high ∷ []
  term_values (within column negated vs) = map (behind column) vs

  pub conj_values : ConjOf (List ℕ) Lit → List (List ℕ × Lit)
  conj_values no_term = []
  conj_values (and_term t ts) = term_values t ++ conj_values ts

  pub cond_values : CondOf (List ℕ) Lit → List (List ℕ × Lit)
  cond_values no_conj = []
  cond_values (or_conj c cs) = conj_values c ++ cond_values cs

-- a condition with each column and each value put for another
module _ {C D V W : Type 0} (f : C → D) (g : V → W) where
  abbrev mutual
    pub term_map : TermOf C V → TermOf D W
    term_map (negation t) = negation (term_map t)
    term_map (nested c) = nested (cond_map c)
    term_map (comparison column cmp v) = comparison (f column) cmp (g v)
    term_map (null_test column negated) = null_test (f column) negated
    term_map (between column negated low high) = between (f column) negated (g low) (g high)
    term_map (within column negated vs) = within (f column) negated (map g vs)

    pub conj_map : ConjOf C V → ConjOf D W
    conj_map no_term = no_term
    conj_map (and_term t ts) = and_term (term_map t) (conj_map ts)

    pub cond_map : CondOf C V → CondOf D W
    cond_map no_conj = no_conj
    cond_map (or_conj c cs) = or_conj (conj_map c) (cond_map cs)

-- what is wrong with a value that is compared with the column of a name
abbrev pub value_fault : List Column → List ℕ × Lit → Option NameFault
value_fault columns named = of_column columns (number_of columns named.0) (compared (value_of named.1))

abbrev pub values_fault : List Column → List (List ℕ × Lit) → Option NameFault
values_fault columns values = first_fault (map (value_fault columns) values)

-- ---- WHERE, which may be absent

abbrev pub where_names : Option (CondOf (List ℕ) Lit) → List (List ℕ)
where_names None = []
where_names (Some c) = cond_names c

abbrev pub where_values : Option (CondOf (List ℕ) Lit) → List (List ℕ × Lit)
where_values None = []
where_values (Some c) = cond_values c

-- the filter of a WHERE
abbrev pub filter_of : List Column → Option (CondOf (List ℕ) Lit) → Option (CondOf ℕ Value)
filter_of columns = option_map (cond_map (number_of columns) value_of)
