-- Which rows a history touched: by changes that are committed, and by changes that are pending.
use Rattle.std.specs.Prelude.{ℕ, ◌+◌, ◌==◌, ◌&&◌, Bool, not, List, Option, if◌then◌else◌}
use Rattle.std.specs.List.{list_any, find, range_with_len}
use Rattle.im_values.specs.declared.limits.TheConstants.{NUMBERS}
use Rattle.im_history.specs.declared.change.Change.{Change}
use Rattle.im_history.specs.declared.entry.What.{What}
use Rattle.im_history.specs.declared.entry.What.TheVariants.{Commit}
use Rattle.im_history.specs.Commits.{scn}
use Rattle.im_history.specs.History.{History, replay}
use Rattle.im_history.specs.Transactions.{pending}

-- the change is to this row number of the table
abbrev pub is_to : ℕ → ℕ → Change → Bool
is_to table rid change = (change.table == table) && (change.rid == rid)

-- one of the changes is to this row number of the table
abbrev pub touches : List Change → ℕ → ℕ → Bool
touches changes table rid = list_any (is_to table rid) changes

-- another session that has a change to the row pending: it locks the row
abbrev pub holder : History → ℕ → ℕ → ℕ → Option ℕ
holder history who table rid =
    find (λ other. not (other == who) && touches (pending history other) table rid) (range_with_len 0 NUMBERS)

-- the last commit that touched a row, after one more entry
abbrev pub touched_after : ℕ → ℕ → History → ℕ → ℕ → What → ℕ
touched_after table rid before so_far who Commit = if touches (pending before who) table rid then scn before + 1 else so_far
touched_after table rid before so_far who what = so_far

-- the SCN of the last commit that touched a row, 0 where none did
unfoldable pub last_touch : History → ℕ → ℕ → ℕ
last_touch history table rid = replay (λ before so_far entry. touched_after table rid before so_far entry.who entry.what) 0 history
