-- Which snapshots may be asked for: the SCNs from the horizon on. A purge lets go of the versions that only older ones show.
use Rattle.std.specs.Prelude.{ℕ, ◌+◌, ◌<◌, ◌≤◌, All, min, Bool, List, [], ◌∷◌, ◌++◌, length, map, drop, count_by, sum_by, is_some, if◌then◌else◌}
use Rattle.std.specs.List.{flat_map, range_with_len}
use Rattle.im_values.specs.declared.limits.TheConstants.{NUMBERS}
use Rattle.im_history.specs.declared.change.Change.{Change}
use Rattle.im_history.specs.declared.entry.What.{What}
use Rattle.im_history.specs.declared.entry.What.TheVariants.{Purge}
use Rattle.im_history.specs.Commits.{commits, scn}
use Rattle.im_history.specs.Cursors.{opened}
use Rattle.im_history.specs.History.{History, replay}
use Rattle.im_history.specs.Kinds.{scope_of}
use Rattle.im_history.specs.Rows.{rows, snapshot}
use Rattle.im_history.specs.Tables.{given, tables}
use Rattle.im_history.specs.Touched.{touches}
use Rattle.im_history.specs.Units.{held}

-- the least of a number and these
abbrev pub least : ℕ → List ℕ → ℕ
least most [] = most
least most (n ∷ ns) = min n (least most ns)

-- the SCNs that a session reads at: that of a statement of its transaction, which is the present one under READ COMMITTED, and those
-- of its open cursors
abbrev pub scns_read : History → ℕ → List ℕ
scns_read history who = snapshot history who ∷ map (λ opened. opened.view.scn) (opened history who)

-- the SCNs of the builds that are held, the killed ones among them
abbrev pub scns_built : History → List ℕ
scns_built history = map (λ held. held.task.scn) (held history)

-- the least SCN that somebody may still read at: no version that it shows may go
unfoldable pub keep : History → ℕ
keep history = least (scn history) (flat_map (scns_read history) (range_with_len 0 NUMBERS) ++ scns_built history)

-- the horizon after one more entry
abbrev pub horizon_after : History → ℕ → What → ℕ
horizon_after before so_far Purge = keep before
horizon_after before so_far what = so_far

-- the least SCN that may be asked for: what the last purge had to keep, 0 where there was none
unfoldable pub horizon : History → ℕ
horizon history = replay (λ before so_far entry. horizon_after before so_far entry.what) 0 history

-- the horizon moves with an entry of this kind
abbrev pub moves_horizon : What → Bool
moves_horizon what = (scope_of what).horizon

-- ---- what it promises

-- an SCN that was reached, and nobody reads below it: no session, no open cursor, and no build that is held
pub record NoneBelow (h : History) (n : ℕ) : Type 0 where
  pub reached : n ≤ scn h
  pub sessions : (who : ℕ) → who < NUMBERS → n ≤ snapshot h who
  pub cursors : (who : ℕ) → who < NUMBERS → All (λ o. n ≤ o.view.scn) (opened h who)
  pub builds : All (λ b. n ≤ b.task.scn) (held h)

-- ---- what is kept

-- how many of these commits touch a row number
abbrev pub touching : List (List Change) → ℕ → ℕ → ℕ
touching commits table rid = count_by (λ changes. touches changes table rid) commits

-- how many versions of a row number are kept: one for each commit behind the horizon that touches it, and one where it had a row there
abbrev pub kept_at : History → ℕ → ℕ → ℕ
kept_at history table rid =
    touching (drop (horizon history) (commits history)) table rid + (if is_some (rows history table (horizon history) rid) then 1 else 0)

-- how many of a table
abbrev pub kept_of : History → ℕ → ℕ
kept_of history table = sum_by (kept_at history table) (range_with_len 0 (given history table))

-- how many of all tables
unfoldable pub kept : History → ℕ
kept history = sum_by (kept_of history) (range_with_len 1 (length (tables history)))
