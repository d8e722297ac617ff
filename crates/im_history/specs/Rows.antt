-- The rows that a history committed, and those that a statement sees.
use Rattle.std.specs.Prelude.{ℕ, ◌==◌, ◌&&◌, List, fold, take, filter, Option, Some, None, if◌then◌else◌}
use Rattle.std.specs.List.{flat_map, filter_map, range_with_len}
use Rattle.std.specs.Option.{option_map}
use Rattle.im_values.specs.declared.content.Content.{Content as Value}
use Rattle.im_history.specs.declared.change.Change.{Change}
use Rattle.im_history.specs.declared.entry.Mode.{Mode}
use Rattle.im_history.specs.declared.entry.Mode.TheVariants.{Committed, Serializable, ReadOnly}
use Rattle.im_history.specs.Commits.{commits, scn}
use Rattle.im_history.specs.History.{History}
use Rattle.im_history.specs.Transactions.{pending, begun, mode}

-- the values of a row
abbrev pub Row : Type 0
Row = List Value

-- what stands at a row number of a table after one change
abbrev pub row_after : ℕ → ℕ → Option Row → Change → Option Row
row_after table rid row change = if (change.table == table) && (change.rid == rid) then change.row else row

-- the changes of the commits up to this SCN, in order
abbrev pub changes_until : History → ℕ → List Change
changes_until history scn = flat_map (λ changes. changes) (take scn (commits history))

-- the committed row at a row number of a table at an SCN
unfoldable pub rows : History → ℕ → ℕ → ℕ → Option Row
rows history table scn rid = fold (row_after table rid) None (changes_until history scn)

-- the committed row at an SCN, then changed by the changes of a session's own
unfoldable pub seen : History → ℕ → ℕ → List Change → ℕ → Option Row
seen history table scn own rid = fold (row_after table rid) (rows history table scn rid) own

-- the rows that stand among so many row numbers from the first on, each with its number, in order
abbrev pub present : (ℕ → Option Row) → ℕ → ℕ → List (ℕ × Row)
present row_at first count = filter_map (λ rid. option_map (λ row. (rid, row)) (row_at rid)) (range_with_len first count)

-- the SCN at a place of the history
abbrev pub scn_at : History → ℕ → ℕ
scn_at history place = scn (take place history)

-- the SCN that a statement under this mode reads at, its transaction having begun there
abbrev pub snapshot_under : History → Mode → Option ℕ → ℕ
snapshot_under history Committed began = scn history
snapshot_under history Serializable None = scn history
snapshot_under history Serializable (Some place) = scn_at history place
snapshot_under history ReadOnly None = scn history
snapshot_under history ReadOnly (Some place) = scn_at history place

-- the SCN that a statement of the session reads at: the present one under READ COMMITTED, else the one where
-- its transaction began. In a legal history a transaction of another mode begins by its Begin
abbrev pub snapshot : History → ℕ → ℕ
snapshot history who = snapshot_under history (mode history who) (begun history who)

-- the session's pending changes to a table
abbrev pub own_changes : History → ℕ → ℕ → List Change
own_changes history who table = filter (λ change. change.table == table) (pending history who)
