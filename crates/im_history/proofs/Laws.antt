-- What each reading of a history is after one more entry.
use Rattle.std.proofs.Common.{◌≡◌, ℕ, ◌==◌, [], ◌∷◌, ◌++◌, length, map, All, None, if◌then◌else◌, ◌+◌, ◌<◌, refl, sym, ap, ◌∙◌, append_assoc, append-nil, length-append}
use Rattle.std.proofs.lemmas.List.{length-map, map-append}
use Rattle.std.proofs.lemmas.List.Elements.{All-nil, All-cons}
use Rattle.im_values.specs.declared.limits.TheConstants.{NUMBERS}
use Rattle.im_history.specs.declared.entry.Entry.{Entry}
use Rattle.im_history.specs.declared.entry.Mode.TheVariants.{Committed}
use Rattle.im_history.specs.declared.entry.What.{What}
use Rattle.im_history.specs.declared.entry.What.TheVariants.{Create, Add, Commit}
use Rattle.im_history.specs.declared.member.Member.{Member}
use Rattle.im_history.specs.Commits.{changes_of, commits, committed_by, member_by, members, moves_clock, scn, writes, writes_after, written, written_by}
use Rattle.im_history.specs.declared.limits.Limits.{Limits}
use Rattle.im_history.specs.Cursors.{opened, opened_after}
use Rattle.im_history.specs.History.{History, replay}
use Rattle.im_history.specs.Legal.{IsAllowed, IsLegal, IsLegalFrom, MayFollow}
use Rattle.im_history.specs.Tables.{tables, created, given, given_after, last_added, last_added_after}
use Rattle.im_history.specs.Touched.{last_touch, touched_after}
use Rattle.im_history.specs.Transactions.{pending, pending_after, begun, begun_after, mode, mode_after}
use Rattle.im_history.specs.Weights.{weight, weight_after}
use Rattle.im_history.proofs.Replay.{replay-push}

pub tables-push : (h : History) (entry : Entry) → tables (h ++ entry ∷ []) ≡ created (tables h) entry.what
unfolding tables
tables-push h entry = replay-push (λ before so_far e. created so_far e.what) [] h entry

pub given-push : (h : History) (entry : Entry) (table : ℕ) → given (h ++ entry ∷ []) table ≡ given_after table (given h table) entry.what
unfolding given
given-push h entry table = replay-push (λ before so_far e. given_after table so_far e.what) 0 h entry

pub last_added-push : (h : History) (entry : Entry) (table : ℕ)
    → last_added (h ++ entry ∷ []) table ≡ last_added_after table (length h) (last_added h table) entry.what
unfolding last_added
last_added-push h entry table = replay-push (λ before so_far e. last_added_after table (length before) so_far e.what) 0 h entry

pub pending-push : (h : History) (entry : Entry) (who : ℕ)
    → pending (h ++ entry ∷ []) who ≡ (if entry.who == who then pending_after (pending h who) entry.what else pending h who)
unfolding pending
pending-push h entry who = replay-push (λ before so_far e. if e.who == who then pending_after so_far e.what else so_far) [] h entry

pub begun-push : (h : History) (entry : Entry) (who : ℕ)
    → begun (h ++ entry ∷ []) who ≡ (if entry.who == who then begun_after (length h) (begun h who) entry.what else begun h who)
unfolding begun
begun-push h entry who = replay-push (λ before so_far e. if e.who == who then begun_after (length before) so_far e.what else so_far) None h entry

pub mode-push : (h : History) (entry : Entry) (who : ℕ)
    → mode (h ++ entry ∷ []) who ≡ (if entry.who == who then mode_after (mode h who) entry.what else mode h who)
unfolding mode
mode-push h entry who = replay-push (λ before so_far e. if e.who == who then mode_after so_far e.what else so_far) Committed h entry

pub members-push : (h : History) (entry : Entry) → members (h ++ entry ∷ []) ≡ members h ++ member_by h entry.who entry.what
unfolding members
members-push h entry = replay-push (λ before so_far e. so_far ++ member_by before e.who e.what) [] h entry

pub commits-push : (h : History) (entry : Entry) → commits (h ++ entry ∷ []) ≡ commits h ++ committed_by h entry.who entry.what
unfolding commits
commits-push h entry = ap (map changes_of) (members-push h entry) ∙ map-append changes_of (members h) (member_by h entry.who entry.what)

pub writes-push : (h : History) (entry : Entry) (who : ℕ)
    → writes (h ++ entry ∷ []) who ≡ (if entry.who == who then writes_after (writes h who) entry.what else writes h who)
unfolding writes
writes-push h entry who = replay-push (λ before so_far e. if e.who == who then writes_after so_far e.what else so_far) 0 h entry

pub written-push : (h : History) (entry : Entry) → written (h ++ entry ∷ []) ≡ written h ++ written_by h entry.who entry.what
unfolding written
written-push h entry = replay-push (λ before so_far e. so_far ++ written_by before e.who e.what) [] h entry

pub opened-push : (h : History) (entry : Entry) (who : ℕ)
    → opened (h ++ entry ∷ []) who ≡ (if entry.who == who then opened_after h who (opened h who) entry.what else opened h who)
unfolding opened
opened-push h entry who = replay-push (λ before so_far e. if e.who == who then opened_after before who so_far e.what else so_far) [] h entry

pub last_touch-push : (h : History) (entry : Entry) (table rid : ℕ)
    → last_touch (h ++ entry ∷ []) table rid ≡ touched_after table rid h (last_touch h table rid) entry.who entry.what
unfolding last_touch
last_touch-push h entry table rid = replay-push (λ before so_far e. touched_after table rid before so_far e.who e.what) 0 h entry

pub weight-push : (h : History) (entry : Entry) → weight (h ++ entry ∷ []) ≡ weight_after (weight h) entry.what
unfolding weight
weight-push h entry = replay-push (λ before so_far e. weight_after so_far e.what) 0 h entry

length-committed_by : (h : History) (who : ℕ) (what : What) → length (committed_by h who what) ≡ (if moves_clock what then 1 else 0)
length-committed_by h who Commit = refl
length-committed_by h who (Create name schema grid) = refl
length-committed_by h who (Add table column default) = refl
length-committed_by h who _ = refl

pub scn-nil : scn [] ≡ 0
unfolding commits members replay
scn-nil = refl

-- there are as many members as commits
pub length-members : (h : History) → length (members h) ≡ scn h
unfolding commits
length-members h = sym (length-map (members h) changes_of)

-- the SCN is one more after an entry that commits
pub scn-push : (h : History) (entry : Entry) → scn (h ++ entry ∷ []) ≡ scn h + (if moves_clock entry.what then 1 else 0)
scn-push h entry =
    ap length (commits-push h entry)
    ∙ (length-append (commits h) (committed_by h entry.who entry.what) ∙ ap (λ n. scn h + n) (length-committed_by h entry.who entry.what))

IsLegalFrom-push : (limits : Limits) (before h : History) (entry : Entry) → IsLegalFrom limits before h
    → MayFollow limits (before ++ h) entry → IsLegalFrom limits before (h ++ entry ∷ [])
IsLegalFrom-push limits before [] entry legal may = (rw append-nil at may, tt)
IsLegalFrom-push limits before (first ∷ h) entry legal may =
    (legal.0, IsLegalFrom-push limits (before ++ first ∷ []) h entry legal.1 (rw (← append_assoc before (first ∷ []) h) at may))

-- a legal history with an entry that may come after it is legal
pub IsLegal-push : (limits : Limits) (h : History) (entry : Entry) → IsLegal limits h → entry.who < NUMBERS
    → IsAllowed limits h entry.who entry.what → IsLegal limits (h ++ entry ∷ [])
IsLegal-push limits h entry legal number allowed = record {
  each = IsLegalFrom-push limits [] h entry legal.each (record { number = number; allowed = allowed });
}

IsLegalFrom-pop : (limits : Limits) (before h : History) (entry : Entry) → IsLegalFrom limits before (h ++ entry ∷ [])
    → IsLegalFrom limits before h × MayFollow limits (before ++ h) entry
IsLegalFrom-pop limits before [] entry legal = (tt, rw append-nil legal.0)
IsLegalFrom-pop limits before (first ∷ h) entry legal =
    let rest = IsLegalFrom-pop limits (before ++ first ∷ []) h entry legal.1 in
    ((legal.0, rest.0), rw (append_assoc before (first ∷ []) h) at rest.1)

-- and of a legal history with one more entry, what is before it is legal, and the entry is allowed there
pub IsLegal-pop : (limits : Limits) (h : History) (entry : Entry) → IsLegal limits (h ++ entry ∷ [])
    → IsLegal limits h × IsAllowed limits h entry.who entry.what
IsLegal-pop limits h entry legal =
    let both = IsLegalFrom-pop limits [] h entry legal.each in (record { each = both.0 }, both.1.allowed)

-- and whoever made it has a number
pub IsLegal-number : (limits : Limits) (h : History) (entry : Entry) → IsLegal limits (h ++ entry ∷ []) → entry.who < NUMBERS
IsLegal-number limits h entry legal = (IsLegalFrom-pop limits [] h entry legal.each).1.number

numbers_from : (limits : Limits) (before h : History) → IsLegalFrom limits before h → All (λ entry. entry.who < NUMBERS) h
numbers_from limits before [] legal = All-nil _
numbers_from limits before (entry ∷ rest) legal =
    All-cons (λ (e : Entry). e.who < NUMBERS) entry rest legal.0.number (numbers_from limits (before ++ entry ∷ []) rest legal.1)

-- whoever made an entry of a legal history has a number
pub IsLegal-numbers : (limits : Limits) (h : History) → IsLegal limits h → All (λ entry. entry.who < NUMBERS) h
IsLegal-numbers limits h legal = numbers_from limits [] h legal.each
