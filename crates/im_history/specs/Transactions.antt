-- The transactions of a session: what is pending, when it began, and in which mode.
use Rattle.std.specs.Prelude.{ℕ, ◌==◌, Bool, List, [], ◌++◌, length, Option, Some, None, is_some, if◌then◌else◌}
use Rattle.im_history.specs.declared.change.Change.{Change}
use Rattle.im_history.specs.declared.entry.Mode.{Mode}
use Rattle.im_history.specs.declared.entry.Mode.TheVariants.{Committed}
use Rattle.im_history.specs.declared.entry.What.{What}
use Rattle.im_history.specs.declared.entry.What.TheVariants.{Begin, Write, Commit, Rollback}
use Rattle.im_history.specs.History.{History, replay}

-- a session's pending changes after one more entry of its own
abbrev pub pending_after : List Change → What → List Change
pending_after so_far (Write changes) = so_far ++ changes
pending_after so_far Commit = []
pending_after so_far Rollback = []
pending_after so_far what = so_far

-- the changes that a session wrote after its last Commit or Rollback, in order
unfoldable pub pending : History → ℕ → List Change
pending history who = replay (λ before so_far entry. if entry.who == who then pending_after so_far entry.what else so_far) [] history

-- an open transaction began where it began, and another begins here
abbrev pub or_here : ℕ → Option ℕ → Option ℕ
or_here place None = Some place
or_here place (Some began) = Some began

-- where a session's transaction began, after one more entry of its own at this place
abbrev pub begun_after : ℕ → Option ℕ → What → Option ℕ
begun_after place so_far (Begin mode) = or_here place so_far
begun_after place so_far (Write changes) = or_here place so_far
begun_after place so_far Commit = None
begun_after place so_far Rollback = None
begun_after place so_far what = so_far

-- the place of the first Begin or Write after the session's last Commit or Rollback: there its open transaction began
unfoldable pub begun : History → ℕ → Option ℕ
begun history who = replay (λ before so_far entry. if entry.who == who then begun_after (length before) so_far entry.what else so_far) None history

-- the session has an open transaction
abbrev pub is_open : History → ℕ → Bool
is_open history who = is_some (begun history who)

-- the mode after one more entry of the session
abbrev pub mode_after : Mode → What → Mode
mode_after so_far (Begin mode) = mode
mode_after so_far Commit = Committed
mode_after so_far Rollback = Committed
mode_after so_far what = so_far

-- the mode of the session's open transaction: that of its Begin, else READ COMMITTED
unfoldable pub mode : History → ℕ → Mode
mode history who = replay (λ before so_far entry. if entry.who == who then mode_after so_far entry.what else so_far) Committed history
