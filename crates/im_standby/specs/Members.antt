-- What members make, in order: the tables, the row numbers given, and the rows.
use Rattle.std.specs.Prelude.{ℕ, List, [], ◌∷◌, ◌++◌, fold, map, Option, None}
use Rattle.std.specs.List.{flat_map, range_with_len}
use Rattle.im_history.specs.declared.change.Change.{Change}
use Rattle.im_history.specs.declared.look.TableInfo.{TableInfo}
use Rattle.im_history.specs.declared.member.Member.{Member}
use Rattle.im_history.specs.declared.member.Member.TheVariants.{Create, Add, Changes}
use Rattle.im_history.specs.Commits.{changes_of}
use Rattle.im_history.specs.Rows.{Row, row_after}
use Rattle.im_history.specs.Tables.{given_by, lengthened, new_table}

-- the tables after one more member
abbrev pub tables_after : List TableInfo → Member → List TableInfo
tables_after tables (Create name schema grid) = tables ++ new_table name schema grid ∷ []
tables_after tables (Add table column default) = lengthened table column default tables
tables_after tables (Changes changes) = tables

-- the tables that members make, in the order of their creation, with the columns that they got
unfoldable pub tables_of : List Member → List TableInfo
tables_of members = fold tables_after [] members

-- the changes of all members, in order
abbrev pub all_changes_of : List Member → List Change
all_changes_of members = flat_map changes_of members

-- one more than the greatest row number of a table that members touch, 0 where they touch none
unfoldable pub given_of : List Member → ℕ → ℕ
given_of members table = given_by table 0 (all_changes_of members)

-- the row that members leave at a row number of a table
unfoldable pub row_of : List Member → ℕ → ℕ → Option Row
row_of members table rid = fold (row_after table rid) None (all_changes_of members)

-- these row numbers of a table, each with the row that members leave there
abbrev pub rows_among_of : List Member → ℕ → List ℕ → List (ℕ × Option Row)
rows_among_of members table rids = map (λ rid. (rid, row_of members table rid)) rids

-- so many from the first on
abbrev pub rows_from_of : List Member → ℕ → ℕ → ℕ → List (ℕ × Option Row)
rows_from_of members table first count = rows_among_of members table (range_with_len first count)
