-- The one list of tokens of each statement.
use Rattle.std.specs.Prelude.{ℕ, pos, Bool, true, false, List, [], ◌∷◌, ◌++◌, Option}
use Rattle.im_readers.specs.Grammar.{spell_joined, spell_optional}
use Rattle.im_values.specs.declared.comparison.Cmp.{Cmp}
use Rattle.im_values.specs.declared.comparison.Cmp.TheVariants as cmp
use Rattle.im_syntax.specs.declared.keyword.Keyword.{Keyword}
use Rattle.im_syntax.specs.declared.keyword.Keyword.TheVariants as key
use Rattle.im_syntax.specs.declared.token.Token.{Token}
use Rattle.im_syntax.specs.declared.token.Token.TheVariants as token
use Rattle.im_syntax.specs.declared.token.Sign.{Sign}
use Rattle.im_syntax.specs.declared.token.Sign.TheVariants as sign
use Rattle.im_syntax.specs.declared.literal.Lit.{Lit}
use Rattle.im_syntax.specs.declared.literal.Lit.TheVariants as lit
use Rattle.im_syntax.specs.declared.table.KindWord.{KindWord}
use Rattle.im_syntax.specs.declared.table.KindWord.TheVariants as kind
use Rattle.im_syntax.specs.declared.table.ColumnPart.{ColumnPart}
use Rattle.im_values.specs.declared.priority.Priority.{Priority}
use Rattle.im_values.specs.declared.priority.Priority.TheVariants as level
use Rattle.im_syntax.specs.declared.table.MemoryPart.{MemoryPart}
use Rattle.im_syntax.specs.declared.item.ItemOf.{ItemOf}
use Rattle.im_syntax.specs.declared.item.ItemOf.TheVariants as item
use Rattle.im_syntax.specs.declared.query.Way.{Way}
use Rattle.im_syntax.specs.declared.query.Way.TheVariants as way
use Rattle.im_syntax.specs.declared.query.KeyPart.{KeyPart}
use Rattle.im_syntax.specs.declared.query.ListPart.{ListPart}
use Rattle.im_syntax.specs.declared.query.ListPart.TheVariants as list
use Rattle.im_syntax.specs.declared.query.Query.{Query}
use Rattle.im_syntax.specs.declared.statement.Stmt.{Stmt}
use Rattle.im_syntax.specs.declared.statement.Stmt.TheVariants as stmt
use Rattle.im_syntax.specs.Functions.{keyword_of}
use Rattle.im_syntax.specs.Condition.{TermOf, negation, nested, comparison, null_test, between, within, ConjOf, no_term, and_term, CondOf, no_conj, or_conj}

-- the token of a keyword, of a sign and of a number
abbrev pub word : Keyword → Token
word = token.Keyword

abbrev pub comma : Token
comma = token.Sign sign.Comma

abbrev pub number : ℕ → Token
number n = token.Int (pos n)

-- tokens in parentheses
abbrev pub in_parens : List Token → List Token
in_parens ts = token.Sign sign.LeftParen ∷ (ts ++ token.Sign sign.RightParen ∷ [])

-- names with commas between them
abbrev pub spell_names : List (List ℕ) → List Token
spell_names = spell_joined comma (λ n. token.Word n ∷ [])

-- ---- literals

abbrev pub lit_token : Lit → Token
lit_token lit.Null = word key.Null
lit_token (lit.Int n) = token.Int n
lit_token (lit.Text t) = token.Text t

-- literals in parentheses, with commas between them: a tuple, or the list behind IN
abbrev pub spell_tuple : List Lit → List Token
spell_tuple vs = in_parens (spell_joined comma (λ v. lit_token v ∷ []) vs)

-- ---- conditions

abbrev pub cmp_sign : Cmp → Sign
cmp_sign cmp.Eq = sign.Eq
cmp_sign cmp.Ne = sign.Ne
cmp_sign cmp.Lt = sign.Lt
cmp_sign cmp.Le = sign.Le
cmp_sign cmp.Gt = sign.Gt
cmp_sign cmp.Ge = sign.Ge

-- NOT, where it is written
abbrev pub spell_not : Bool → List Token
spell_not true = word key.Not ∷ []
spell_not false = []

abbrev mutual
  pub spell_term : TermOf (List ℕ) Lit → List Token
  spell_term (negation t) = word key.Not ∷ spell_term t
  spell_term (nested c) = in_parens (spell_cond c)
  spell_term (comparison column cmp value) = token.Word column ∷ token.Sign (cmp_sign cmp) ∷ lit_token value ∷ []
  spell_term (null_test column negated) = token.Word column ∷ word key.Is ∷ (spell_not negated ++ word key.Null ∷ [])
  spell_term (between column negated low high) =
      token.Word column ∷ (spell_not negated ++ word key.Between ∷ lit_token low ∷ word key.And ∷ lit_token high ∷ [])
  spell_term (within column negated values) = token.Word column ∷ (spell_not negated ++ word key.In ∷ spell_tuple values)

  pub spell_conj : ConjOf (List ℕ) Lit → List Token
  spell_conj no_term = []
  spell_conj (and_term t ts) = spell_term t ++ spell_and ts

  -- terms, each behind an AND
  pub spell_and : ConjOf (List ℕ) Lit → List Token
  spell_and no_term = []
  spell_and (and_term t ts) = word key.And ∷ (spell_term t ++ spell_and ts)

  pub spell_cond : CondOf (List ℕ) Lit → List Token
  spell_cond no_conj = []
  spell_cond (or_conj c cs) = spell_conj c ++ spell_or cs

  -- conjunctions, each behind an OR
  pub spell_or : CondOf (List ℕ) Lit → List Token
  spell_or no_conj = []
  spell_or (or_conj c cs) = word key.Or ∷ (spell_conj c ++ spell_or cs)

abbrev pub spell_where : Option (CondOf (List ℕ) Lit) → List Token
spell_where = spell_optional (λ c. word key.Where ∷ spell_cond c)

-- ---- queries

-- a column or * in parentheses behind the keyword of a function
abbrev pub spell_item : ItemOf (List ℕ) → List Token
spell_item (item.Column n) = token.Word n ∷ []
spell_item item.CountAll = word key.Count ∷ in_parens (token.Sign sign.Star ∷ [])
spell_item (item.Aggregate function n) = word (keyword_of function) ∷ in_parens (token.Word n ∷ [])

abbrev pub spell_way : Way → List Token
spell_way way.Unsaid = []
spell_way way.Asc = word key.Asc ∷ []
spell_way way.Desc = word key.Desc ∷ []

abbrev pub spell_key : KeyPart → List Token
spell_key k = spell_item k.item ++ spell_way k.way

abbrev pub spell_list : ListPart → List Token
spell_list list.Star = token.Sign sign.Star ∷ []
spell_list (list.Items items) = spell_joined comma spell_item items

-- GROUP BY and ORDER BY, where there are names or keys
abbrev pub spell_groups : List (List ℕ) → List Token
spell_groups [] = []
spell_groups (n ∷ ns) = word key.Group ∷ word key.By ∷ spell_names (n ∷ ns)

abbrev pub spell_keys : List KeyPart → List Token
spell_keys [] = []
spell_keys (k ∷ ks) = word key.Order ∷ word key.By ∷ spell_joined comma spell_key (k ∷ ks)

-- the SCN that a query names, where it names one
abbrev pub spell_asked : Option ℕ → List Token
spell_asked = spell_optional (λ n. word key.As ∷ word key.Of ∷ word key.Scn ∷ number n ∷ [])

abbrev pub spell_query : Query → List Token
spell_query q =
    word key.Select
    ∷ (spell_list q.list ++ word key.From ∷ token.Word q.table
    ∷ (spell_asked q.asked ++ (spell_where q.cond ++ (spell_groups q.groups ++ spell_keys q.keys))))

-- ---- tables

abbrev pub spell_kind : KindWord → List Token
spell_kind kind.Number = word key.Number ∷ []
spell_kind kind.Integer = word key.Integer ∷ []
spell_kind (kind.Varchar2 n) = word key.Varchar2 ∷ in_parens (number n ∷ [])

abbrev pub spell_column : ColumnPart → List Token
spell_column c = token.Word c.name ∷ spell_kind c.kind

abbrev pub level_word : Priority → Keyword
level_word level.Critical = key.Critical
level_word level.High = key.High
level_word level.Medium = key.Medium
level_word level.Low = key.Low
level_word level.None = key.None

abbrev pub spell_compress : Bool → List Token
spell_compress true = word key.MemCompress ∷ word key.For ∷ word key.Query ∷ word key.Low ∷ []
spell_compress false = []

abbrev pub spell_memory : MemoryPart → List Token
spell_memory m = word key.InMemory ∷ (spell_compress m.compress ++ spell_optional (λ l. word key.Priority ∷ word (level_word l) ∷ []) m.level)

-- a keyword and a number, where that is written
abbrev pub spell_option : Keyword → Option ℕ → List Token
spell_option k = spell_optional (λ n. word k ∷ number n ∷ [])

-- the default of a column, where it is written
abbrev pub spell_default : Option Lit → List Token
spell_default = spell_optional (λ v. word key.Default ∷ lit_token v ∷ [])

-- a column that a table gets, with its default
abbrev pub spell_added : ColumnPart → Option Lit → List Token
spell_added column default = word key.Add ∷ in_parens (spell_column column ++ spell_default default)

-- the columns of an INSERT, where they are written
abbrev pub spell_columns : List (List ℕ) → List Token
spell_columns [] = []
spell_columns (n ∷ ns) = in_parens (spell_names (n ∷ ns))

abbrev pub spell_set : List ℕ × Lit → List Token
spell_set s = token.Word s.0 ∷ token.Sign sign.Eq ∷ lit_token s.1 ∷ []

-- ---- statements

abbrev pub spelling : Stmt → List Token
spelling (stmt.Select q) = spell_query q
spelling (stmt.Explain q) = word key.Explain ∷ spell_query q
spelling (stmt.Create name columns block extent memory) =
    word key.Create ∷ word key.Table ∷ token.Word name
    ∷ (in_parens (spell_joined comma spell_column columns) ++
    (spell_option key.Block block ++ (spell_option key.Extent extent ++ spell_optional spell_memory memory)))
spelling (stmt.AlterMemory name memory) = word key.Alter ∷ word key.Table ∷ token.Word name ∷ spell_memory memory
spelling (stmt.AlterNoMemory name) = word key.Alter ∷ word key.Table ∷ token.Word name ∷ word key.No ∷ word key.InMemory ∷ []
spelling (stmt.AddColumn name column default) = word key.Alter ∷ word key.Table ∷ token.Word name ∷ spell_added column default
spelling (stmt.Insert name columns tuples) =
    word key.Insert ∷ word key.Into ∷ token.Word name ∷ (spell_columns columns ++ word key.Values ∷ spell_joined comma spell_tuple tuples)
spelling (stmt.Update name sets cond) = word key.Update ∷ token.Word name ∷ word key.Set ∷ (spell_joined comma spell_set sets ++ spell_where cond)
spelling (stmt.Delete name cond) = word key.Delete ∷ word key.From ∷ token.Word name ∷ spell_where cond
spelling stmt.SetReadOnly = word key.Set ∷ word key.Transaction ∷ word key.Read ∷ word key.Only ∷ []
spelling stmt.SetSerializable = word key.Set ∷ word key.Transaction ∷ word key.Isolation ∷ word key.Level ∷ word key.Serializable ∷ []
spelling stmt.SetCommitted = word key.Set ∷ word key.Transaction ∷ word key.Isolation ∷ word key.Level ∷ word key.Read ∷ word key.Committed ∷ []
spelling stmt.Commit = word key.Commit ∷ []
spelling stmt.Rollback = word key.Rollback ∷ []
spelling (stmt.OpenFor cursor q) = word key.Open ∷ number cursor ∷ word key.For ∷ spell_query q
spelling (stmt.Step cursor) = word key.Step ∷ number cursor ∷ []
spelling (stmt.Fetch cursor) = word key.Fetch ∷ number cursor ∷ []
spelling (stmt.Close cursor) = word key.Close ∷ number cursor ∷ []
spelling stmt.Run = word key.Run ∷ []
spelling stmt.Begin = word key.Begin ∷ []
spelling stmt.Switch = word key.Switch ∷ []
spelling stmt.Cancel = word key.Cancel ∷ []
spelling (stmt.Trickle n) = word key.Trickle ∷ number n ∷ []
spelling (stmt.Evict name extent) = word key.Evict ∷ token.Word name ∷ number extent ∷ []
spelling stmt.Purge = word key.Purge ∷ []
