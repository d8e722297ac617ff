-- What a sender answers, and what it met.
use Rattle.std.specs.Prelude.{◌≡◌, ◌≢◌, ℕ, ◌+◌, ◌≤◌, ◌⊎◌, List, ◌++◌, All, length, take, ⊤}
use Rattle.im_history.specs.declared.member.Member.{Member}
use Rattle.im_history.specs.Commits.{members, scn}
use Rattle.im_history.specs.History.{History}
use Rattle.im_history.specs.Leaves.{leaves}
use Rattle.im_plan.specs.Goes.{After}
use Rattle.im_reach.specs.Sides.{AreOthers, Known, StoreSide}
use Rattle.im_feed.specs.declared.sending.Fed.{Fed}
use Rattle.im_feed.specs.declared.sending.Fed.TheVariants as fed

-- how many members were sent
abbrev pub sent_of : Fed → ℕ
sent_of (fed.Spent sent lacks waits) = sent
sent_of (fed.Over sent) = sent

-- what is said of a job whose turns were made, and of one that is over
abbrev pub IfSpent : Fed → (ℕ → ℕ → ℕ → Type 0) → Type 0
IfSpent (fed.Spent sent lacks waits) says = says sent lacks waits
IfSpent (fed.Over sent) says = ⊤

abbrev pub IfOver : Fed → (ℕ → Type 0) → Type 0
IfOver (fed.Spent sent lacks waits) says = ⊤
IfOver (fed.Over sent) says = says sent

-- these are the first so many members of the history, which has no fewer
pub record AreFirst (sent : ℕ) (pushed : List Member) (log : History) : Type 0 where
  pub are : pushed ≡ take sent (members log)
  pub reached : sent ≤ scn log

-- at some moment the feed was full: it held as many members as it has room for, of those that were pushed by then
pub record WasFull (room : ℕ) (pushed : List Member) : Type 0 where
  pub before : List Member
  pub held : List Member
  pub later : List Member
  pub is : pushed ≡ (before ++ held) ++ later
  pub full : length held ≡ room

-- at this moment between the two histories each member that then stood was pushed, and not all sessions had left
pub record IsReading (side : StoreSide) (sessions : ℕ) (old new : History) (sent : ℕ) (at : History) : Type 0 where
  pub since : After (AreOthers side) old at
  pub until : After (AreOthers side) at new
  pub all : scn at ≤ sent
  pub left : leaves at ≢ sessions

-- a count of 64 bits rose by so many, or stands at its greatest number
pub record IsRise (count before after : ℕ) : Type 0 where
  pub few : after ≤ before + count
  pub all : (after ≡ before + count) ⊎ (after ≡ 18446744073709551615)

-- it rose by so many at least, or stands there
abbrev pub IsWithinRise : ℕ → ℕ → ℕ → Type 0
IsWithinRise count before after = (before + count ≤ after) ⊎ (after ≡ 18446744073709551615)

-- the feed was full in so many turns
pub record WasWaited (room fulls : ℕ) (pushed : List Member) : Type 0 where
  pub full : (fulls ≡ 0) ⊎ WasFull room pushed

-- how the turns were spent in which nothing was read or pushed. In so many memory was out; at the readings the next member was looked
-- for and was not there; in all others the feed was full. The lacks and the readings are all that was missed
pub record WereWaited (room sessions sent lacks waits : ℕ) (pushed : List Member) (old new : Known) : Type 0 where
  pub readings : List History
  pub fulls : ℕ
  pub each : All (IsReading old.side sessions old.log new.log sent) readings
  pub full : WasWaited room fulls pushed
  pub waits_are : waits ≡ length readings + fulls
  pub misses : IsRise (lacks + length readings) old.misses new.misses

-- no turn was waited, or the feed was full at some moment, or at some moment each member that then stood was pushed
abbrev pub HasCause : ℕ → ℕ → ℕ → ℕ → List Member → Known → Known → Type 0
HasCause room sessions sent waits pushed old new =
    (waits ≡ 0) ⊎ WasFull room pushed ⊎ ((at : History) × IsReading old.side sessions old.log new.log sent at)
