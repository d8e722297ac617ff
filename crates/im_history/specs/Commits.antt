-- What was committed, and the system change number (SCN): a clock that each commit moves on by one.
-- The creation of a table counts as a commit, and so does each column that is added to one.
use Rattle.std.specs.Prelude.{ℕ, ◌+◌, ◌-◌, ◌==◌, Bool, List, [], ◌∷◌, ◌++◌, length, map, slice_get, slice_index_or, Option, if◌then◌else◌}
use Rattle.im_history.specs.declared.change.Change.{Change}
use Rattle.im_history.specs.declared.entry.What.{What}
use Rattle.im_history.specs.declared.entry.What.TheVariants.{Create, Add, Write, Commit, Rollback}
use Rattle.im_history.specs.declared.member.Member.{Member}
use Rattle.im_history.specs.declared.member.Member.TheVariants as member
use Rattle.im_history.specs.History.{History, replay}
use Rattle.im_history.specs.Kinds.{scope_of}
use Rattle.im_history.specs.Transactions.{pending}

-- the member that an entry adds to what was committed: a Create and an Add themselves, a Commit the pending changes of its session,
-- any other entry none
abbrev pub member_by : History → ℕ → What → List Member
member_by before who Commit = member.Changes (pending before who) ∷ []
member_by before who (Create name schema grid) = member.Create name schema grid ∷ []
member_by before who (Add table column default) = member.Add table column default ∷ []
member_by before who what = []

-- the members in order: the first of them is commit 1
unfoldable pub members : History → List Member
members history = replay (λ before so_far entry. so_far ++ member_by before entry.who entry.what) [] history

-- commit n, where there is one: commits are numbered from 1
abbrev pub member_at : History → ℕ → Option Member
member_at history n = slice_get (members history) (n - 1)

-- the changes of a member: a table and a column come without any
abbrev pub changes_of : Member → List Change
changes_of (member.Changes changes) = changes
changes_of (member.Create name schema grid) = []
changes_of (member.Add table column default) = []

-- what one entry commits: a Commit the pending changes of its session, a Create and an Add an empty list, any other entry nothing
abbrev pub committed_by : History → ℕ → What → List (List Change)
committed_by before who what = map changes_of (member_by before who what)

-- the commits in order, each with its changes: the first of them is commit 1
unfoldable pub commits : History → List (List Change)
commits history = map changes_of (members history)

-- the present SCN: how many commits there were
abbrev pub scn : History → ℕ
scn history = length (commits history)

-- the SCN moves on with an entry of this kind
abbrev pub moves_clock : What → Bool
moves_clock what = (scope_of what).clock

-- ---- how many Write entries a member is made of

-- a session's Write entries after its last Commit or Rollback, with one more entry of its own
abbrev pub writes_after : ℕ → What → ℕ
writes_after so_far (Write changes) = so_far + 1
writes_after so_far Commit = 0
writes_after so_far Rollback = 0
writes_after so_far what = so_far

-- how many Write entries a session made after its last Commit or Rollback
unfoldable pub writes : History → ℕ → ℕ
writes history who = replay (λ before so_far entry. if entry.who == who then writes_after so_far entry.what else so_far) 0 history

-- how many Write entries an entry commits, for each member that it adds
abbrev pub written_by : History → ℕ → What → List ℕ
written_by before who Commit = writes before who ∷ []
written_by before who (Create name schema grid) = 0 ∷ []
written_by before who (Add table column default) = 0 ∷ []
written_by before who what = []

-- for each commit in order, how many Write entries it is made of
unfoldable pub written : History → List ℕ
written history = replay (λ before so_far entry. so_far ++ written_by before entry.who entry.what) [] history

-- how many Write entries commit n is made of
abbrev pub writes_of : History → ℕ → ℕ
writes_of history n = slice_index_or (written history) (n - 1) 0
