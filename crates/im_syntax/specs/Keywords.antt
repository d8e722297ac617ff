-- The words that the language keeps for itself, by the table of the code, and their letters.
use Rattle.std.specs.Prelude.{ℕ, List, [], ◌∷◌, map, Option, Some, None, codes, cond}
use Rattle.std.specs.Str.{bytes_eq}
use Rattle.im_syntax.specs.declared.keyword.Keyword.{Keyword}
use Rattle.im_syntax.specs.declared.keyword.Keyword.TheVariants as keyword
use Rattle.im_syntax.specs.declared.keyword.TheConstants.{KEYWORDS}

-- the first entry of a table that has these letters
abbrev pub look_up : List (List ℕ × Keyword) → List ℕ → Option Keyword
look_up [] word = None
look_up (entry ∷ entries) word = cond (bytes_eq entry.0 word) (Some entry.1) (look_up entries word)

-- the keyword of these letters, where they are one's
unfoldable pub keyword_of : List ℕ → Option Keyword
keyword_of = look_up (map (λ entry. (entry.0.now, entry.1)) KEYWORDS)

-- the letters of a keyword
abbrev pub letters : Keyword → List ℕ
letters keyword.Add = codes "ADD"
letters keyword.Alter = codes "ALTER"
letters keyword.And = codes "AND"
letters keyword.As = codes "AS"
letters keyword.Asc = codes "ASC"
letters keyword.Begin = codes "BEGIN"
letters keyword.Between = codes "BETWEEN"
letters keyword.Block = codes "BLOCK"
letters keyword.By = codes "BY"
letters keyword.Cancel = codes "CANCEL"
letters keyword.Close = codes "CLOSE"
letters keyword.Commit = codes "COMMIT"
letters keyword.Committed = codes "COMMITTED"
letters keyword.Count = codes "COUNT"
letters keyword.Create = codes "CREATE"
letters keyword.Critical = codes "CRITICAL"
letters keyword.Default = codes "DEFAULT"
letters keyword.Delete = codes "DELETE"
letters keyword.Desc = codes "DESC"
letters keyword.Evict = codes "EVICT"
letters keyword.Explain = codes "EXPLAIN"
letters keyword.Extent = codes "EXTENT"
letters keyword.Fetch = codes "FETCH"
letters keyword.For = codes "FOR"
letters keyword.From = codes "FROM"
letters keyword.Group = codes "GROUP"
letters keyword.High = codes "HIGH"
letters keyword.In = codes "IN"
letters keyword.InMemory = codes "INMEMORY"
letters keyword.Insert = codes "INSERT"
letters keyword.Integer = codes "INTEGER"
letters keyword.Into = codes "INTO"
letters keyword.Is = codes "IS"
letters keyword.Isolation = codes "ISOLATION"
letters keyword.Level = codes "LEVEL"
letters keyword.Low = codes "LOW"
letters keyword.Max = codes "MAX"
letters keyword.Medium = codes "MEDIUM"
letters keyword.MemCompress = codes "MEMCOMPRESS"
letters keyword.Min = codes "MIN"
letters keyword.No = codes "NO"
letters keyword.None = codes "NONE"
letters keyword.Not = codes "NOT"
letters keyword.Null = codes "NULL"
letters keyword.Number = codes "NUMBER"
letters keyword.Of = codes "OF"
letters keyword.Only = codes "ONLY"
letters keyword.Open = codes "OPEN"
letters keyword.Or = codes "OR"
letters keyword.Order = codes "ORDER"
letters keyword.Priority = codes "PRIORITY"
letters keyword.Purge = codes "PURGE"
letters keyword.Query = codes "QUERY"
letters keyword.Read = codes "READ"
letters keyword.Rollback = codes "ROLLBACK"
letters keyword.Run = codes "RUN"
letters keyword.Scn = codes "SCN"
letters keyword.Select = codes "SELECT"
letters keyword.Serializable = codes "SERIALIZABLE"
letters keyword.Set = codes "SET"
letters keyword.Step = codes "STEP"
letters keyword.Sum = codes "SUM"
letters keyword.Switch = codes "SWITCH"
letters keyword.Table = codes "TABLE"
letters keyword.Transaction = codes "TRANSACTION"
letters keyword.Trickle = codes "TRICKLE"
letters keyword.Update = codes "UPDATE"
letters keyword.Values = codes "VALUES"
letters keyword.Varchar2 = codes "VARCHAR2"
letters keyword.Where = codes "WHERE"
