-- What a standby shows of the store whose members it applied.
use Rattle.std.specs.Prelude.{◌≡◌, ℕ, ◌≤◌, List, ◌++◌, map, Some, None}
use Rattle.im_feed.specs.Lawful.{IsBeginning}
use Rattle.im_history.specs.declared.look.TableInfo.{TableInfo}
use Rattle.im_history.specs.declared.member.Member.{Member}
use Rattle.im_history.specs.Columns.{defaults_at, schema_at}
use Rattle.im_history.specs.Commits.{members, scn}
use Rattle.im_history.specs.Fetched.{all_widened}
use Rattle.im_history.specs.History.{History}
use Rattle.im_history.specs.Rows.{changes_until, rows}
use Rattle.im_history.specs.Tables.{given_by, table_among, table_at, tables}
use Rattle.im_history.specs.Views.{defaults_of}
use Rattle.im_standby.specs.Members.{given_of, row_of, rows_among_of, tables_of}
use Rattle.im_standby.specs.Standing.{IsOf, Standing}

-- a standby that has applied the first members of a history
pub record IsOfStore (standing : Standing) (history : History) (first : List Member) : Type 0 where
  pub is_of : IsOf standing first
  pub begins : IsBeginning first (members history)

-- a table, outside the column store
abbrev pub bare : TableInfo → TableInfo
bare table = record table { memory = None }

-- a history stood at an SCN at some moment, with these tables
pub record StoodWith (history : History) (at : ℕ) (these : List TableInfo) : Type 0 where
  pub before : History
  pub after : History
  pub is : history ≡ before ++ after
  pub scn_is : scn before ≡ at
  pub tables_are : these ≡ map bare (tables before)

-- the table of this number has the shape of this one, which has the columns and defaults that it had at an SCN
pub record WasTable (history : History) (at table : ℕ) (info : TableInfo) : Type 0 where
  pub now : TableInfo
  pub is : table_at history table ≡ Some now
  pub shape : info.shape ≡ now.shape
  pub schema : info.schema ≡ schema_at history table at
  pub defaults : info.defaults ≡ defaults_at history table at

-- it shows each row as it was committed at its SCN
abbrev pub HasItsRows : Type 0
HasItsRows = (standing : Standing) (history : History) (first : List Member) → IsOfStore standing history first → (table rid : ℕ) →
    row_of first table rid ≡ rows history table standing.scn rid

-- its SCN was reached
abbrev pub IsReached : Type 0
IsReached = (standing : Standing) (history : History) (first : List Member) → IsOfStore standing history first → standing.scn ≤ scn history

-- it shows the tables that there were at its SCN
abbrev pub HasItsTables : Type 0
HasItsTables = (standing : Standing) (history : History) (first : List Member) → IsOfStore standing history first →
    StoodWith history standing.scn standing.tables

-- each with the columns that it had there
abbrev pub HasItsColumns : Type 0
HasItsColumns = (standing : Standing) (history : History) (first : List Member) → IsOfStore standing history first → (table : ℕ) (info : TableInfo) →
    table_among standing.tables table ≡ Some info → WasTable history standing.scn table info

-- and of each it has given the row numbers up to the greatest that the commits up to its SCN touched
abbrev pub GivesItsNumbers : Type 0
GivesItsNumbers = (standing : Standing) (history : History) (first : List Member) → IsOfStore standing history first → (table : ℕ) →
    given_of first table ≡ given_by table 0 (changes_until history standing.scn)

-- the rows at these row numbers are shown as the store showed them there: with the defaults of the columns that their table had
abbrev pub ShowsItsRows : Type 0
ShowsItsRows = (standing : Standing) (history : History) (first : List Member) → IsOfStore standing history first → (table : ℕ) (info : TableInfo) →
    table_among standing.tables table ≡ Some info → (rids : List ℕ) →
    all_widened (defaults_of (table_among (tables_of first) table)) (rows_among_of first table rids)
    ≡ all_widened (defaults_at history table standing.scn) (map (λ rid. (rid, rows history table standing.scn rid)) rids)

-- past the row numbers that members give there is no row
abbrev pub HasNoRowBehind : Type 0
HasNoRowBehind = (members : List Member) (table rid : ℕ) → given_of members table ≤ rid → row_of members table rid ≡ None
