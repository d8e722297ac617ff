-- Which values of the syntax are statements: what names, numbers and lists must be, and how deep a condition nests.
use Rattle.std.specs.Prelude.{◌≡◌, ℕ, zero, suc, ◌-◌, ◌≤◌, List, Option}
use Rattle.std.specs.List.{AllByRecursion}
use Rattle.im_readers.specs.Grammar.{Any, GoodOptional, GoodJoined, GoodJoinedUpTo}
use Rattle.im_values.specs.declared.limits.TheConstants.{MOST_COLUMNS, MOST_IN_SHAPE, MOST_LEVELS}
use Rattle.im_syntax.specs.declared.limits.TheConstants.{MOST_TEXT_BYTES, LAST_CURSOR, MOST_CREDITS, LAST_EXTENT, LAST_SCN}
use Rattle.im_syntax.specs.declared.literal.Lit.{Lit}
use Rattle.im_syntax.specs.declared.table.KindWord.{KindWord}
use Rattle.im_syntax.specs.declared.table.KindWord.TheVariants as kind
use Rattle.im_syntax.specs.declared.table.ColumnPart.{ColumnPart}
use Rattle.im_syntax.specs.declared.item.ItemOf.{ItemOf}
use Rattle.im_syntax.specs.declared.item.ItemOf.TheVariants as item
use Rattle.im_syntax.specs.declared.query.KeyPart.{KeyPart}
use Rattle.im_syntax.specs.declared.query.ListPart.{ListPart}
use Rattle.im_syntax.specs.declared.query.ListPart.TheVariants as list
use Rattle.im_syntax.specs.declared.query.Query.{Query}
use Rattle.im_syntax.specs.declared.statement.Side.{Side}
use Rattle.im_syntax.specs.declared.statement.Side.TheVariants as side
use Rattle.im_syntax.specs.declared.statement.Stmt.{Stmt}
use Rattle.im_syntax.specs.declared.statement.Stmt.TheVariants as stmt
use Rattle.im_syntax.specs.Condition.{TermOf, negation, nested, comparison, null_test, between, within, ConjOf, no_term, and_term, CondOf, no_conj, or_conj}
use Rattle.im_syntax.specs.Words.{IsName}

-- a number from low to high
pub record IsWithin (low high n : ℕ) : Type 0 where
  pub low_end : low ≤ n
  pub high_end : n ≤ high

-- a list of literals is not empty
abbrev pub IsTuple : List Lit → Type 0
IsTuple = GoodJoined Any

-- ---- conditions

-- a term in which they nest at most d deep, and lists of such terms
abbrev mutual
  pub IsTerm : ℕ → TermOf (List ℕ) Lit → Type 0
  IsTerm zero (negation t) = ⊥
  IsTerm (suc d) (negation t) = IsTerm d t
  IsTerm zero (nested c) = ⊥
  IsTerm (suc d) (nested c) = IsCond d c
  IsTerm d (comparison column cmp value) = IsName column
  IsTerm d (null_test column negated) = IsName column
  IsTerm d (between column negated low high) = IsName column
  IsTerm d (within column negated values) = IsName column × IsTuple values

  -- one term or more
  pub IsConj : ℕ → ConjOf (List ℕ) Lit → Type 0
  IsConj d no_term = ⊥
  IsConj d (and_term t ts) = IsTerm d t × AreTerms d ts

  pub AreTerms : ℕ → ConjOf (List ℕ) Lit → Type 0
  AreTerms d no_term = Unit {0}
  AreTerms d (and_term t ts) = IsTerm d t × AreTerms d ts

  -- one conjunction or more
  pub IsCond : ℕ → CondOf (List ℕ) Lit → Type 0
  IsCond d no_conj = ⊥
  IsCond d (or_conj c cs) = IsConj d c × AreConjs d cs

  pub AreConjs : ℕ → CondOf (List ℕ) Lit → Type 0
  AreConjs d no_conj = Unit {0}
  AreConjs d (or_conj c cs) = IsConj d c × AreConjs d cs

abbrev pub IsWhere : Option (CondOf (List ℕ) Lit) → Type 0
IsWhere = GoodOptional (IsCond MOST_LEVELS)

-- ---- queries

abbrev pub IsItem : ItemOf (List ℕ) → Type 0
IsItem (item.Column n) = IsName n
IsItem item.CountAll = Unit {0}
IsItem (item.Aggregate function n) = IsName n

abbrev pub IsKey : KeyPart → Type 0
IsKey k = IsItem k.item

abbrev pub IsList : ListPart → Type 0
IsList list.Star = Unit {0}
IsList (list.Items items) = GoodJoined IsItem items

-- the SCN that a query names, where it names one
abbrev pub IsAsked : Option ℕ → Type 0
IsAsked = GoodOptional (IsWithin 0 LAST_SCN)

pub record IsQuery (q : Query) : Type 0 where
  pub list : IsList q.list
  pub table : IsName q.table
  pub asked : IsAsked q.asked
  pub cond : IsWhere q.cond
  pub groups : AllByRecursion IsName q.groups
  pub keys : AllByRecursion IsKey q.keys

-- ---- tables

abbrev pub IsKind : KindWord → Type 0
IsKind kind.Number = Unit {0}
IsKind kind.Integer = Unit {0}
IsKind (kind.Varchar2 n) = IsWithin 1 MOST_TEXT_BYTES n

abbrev pub IsColumn : ColumnPart → Type 0
IsColumn c = IsName c.name × IsKind c.kind

-- a table has one column or more
pub record IsCreate (n : List ℕ) (cs : List ColumnPart) (b e : Option ℕ) : Type 0 where
  pub name : IsName n
  pub columns : GoodJoinedUpTo (MOST_COLUMNS - 1) IsColumn cs
  pub block : GoodOptional (IsWithin 1 MOST_IN_SHAPE) b
  pub extent : GoodOptional (IsWithin 1 MOST_IN_SHAPE) e

pub record IsInsert (n : List ℕ) (cs : List (List ℕ)) (ts : List (List Lit)) : Type 0 where
  pub name : IsName n
  pub columns : AllByRecursion IsName cs
  pub tuples : GoodJoined IsTuple ts

abbrev pub IsSet : List ℕ × Lit → Type 0
IsSet s = IsName s.0

pub record IsUpdate (n : List ℕ) (ss : List (List ℕ × Lit)) (c : Option (CondOf (List ℕ) Lit)) : Type 0 where
  pub name : IsName n
  pub sets : GoodJoined IsSet ss
  pub cond : IsWhere c

-- ---- statements

abbrev pub IsStmt : Stmt → Type 0
IsStmt (stmt.Select q) = IsQuery q
IsStmt (stmt.Explain q) = IsQuery q
IsStmt (stmt.Create name columns block extent memory) = IsCreate name columns block extent
IsStmt (stmt.AlterMemory name memory) = IsName name
IsStmt (stmt.AlterNoMemory name) = IsName name
IsStmt (stmt.AddColumn name column default) = IsName name × IsColumn column
IsStmt (stmt.Insert name columns tuples) = IsInsert name columns tuples
IsStmt (stmt.Update name sets cond) = IsUpdate name sets cond
IsStmt (stmt.Delete name cond) = IsName name × IsWhere cond
IsStmt stmt.SetReadOnly = Unit {0}
IsStmt stmt.SetSerializable = Unit {0}
IsStmt stmt.SetCommitted = Unit {0}
IsStmt stmt.Commit = Unit {0}
IsStmt stmt.Rollback = Unit {0}
IsStmt (stmt.OpenFor cursor q) = IsWithin 1 LAST_CURSOR cursor × IsQuery q
IsStmt (stmt.Step cursor) = IsWithin 1 LAST_CURSOR cursor
IsStmt (stmt.Fetch cursor) = IsWithin 1 LAST_CURSOR cursor
IsStmt (stmt.Close cursor) = IsWithin 1 LAST_CURSOR cursor
IsStmt stmt.Run = Unit {0}
IsStmt stmt.Begin = Unit {0}
IsStmt stmt.Switch = Unit {0}
IsStmt stmt.Cancel = Unit {0}
IsStmt (stmt.Trickle n) = IsWithin 1 MOST_CREDITS n
IsStmt (stmt.Evict name extent) = IsName name × IsWithin 0 LAST_EXTENT extent
IsStmt stmt.Purge = Unit {0}

-- whose statement it is
abbrev pub side_of : Stmt → Side
side_of (stmt.Select q) = side.Session
side_of (stmt.Explain q) = side.Session
side_of (stmt.Create name columns block extent memory) = side.Session
side_of (stmt.AlterMemory name memory) = side.Session
side_of (stmt.AlterNoMemory name) = side.Session
side_of (stmt.AddColumn name column default) = side.Session
side_of (stmt.Insert name columns tuples) = side.Session
side_of (stmt.Update name sets cond) = side.Session
side_of (stmt.Delete name cond) = side.Session
side_of stmt.SetReadOnly = side.Session
side_of stmt.SetSerializable = side.Session
side_of stmt.SetCommitted = side.Session
side_of stmt.Commit = side.Session
side_of stmt.Rollback = side.Session
side_of (stmt.OpenFor cursor q) = side.Session
side_of (stmt.Step cursor) = side.Session
side_of (stmt.Fetch cursor) = side.Session
side_of (stmt.Close cursor) = side.Session
side_of stmt.Run = side.Background
side_of stmt.Begin = side.Background
side_of stmt.Switch = side.Background
side_of stmt.Cancel = side.Background
side_of (stmt.Trickle n) = side.Background
side_of (stmt.Evict name extent) = side.Background
side_of stmt.Purge = side.Background

-- a statement of one side
pub record IsStmtOf (whose : Side) (s : Stmt) : Type 0 where
  pub is_stmt : IsStmt s
  pub is_of : side_of s ≡ whose
