-- A sender's job on its way.
use Rattle.std.specs.Prelude.{◌≡◌, ◌≢◌, ℕ, ◌+◌, ◌-◌, ◌*◌, ◌<◌, ◌≤◌, ◌⊎◌, Bool, true, false, List, [], ◌∷◌, ◌++◌, Some, ⊤}
use Rattle.im_history.specs.declared.member.Member.{Member}
use Rattle.im_history.specs.Commits.{member_at, scn}
use Rattle.im_history.specs.Leaves.{leaves}
use Rattle.im_plan.specs.Goes.{After}
use Rattle.im_reach.specs.Rests.{Counted}
use Rattle.im_reach.specs.Sides.{AreOthers, Found, Known, Missed}
use Rattle.im_feed.specs.declared.sending.Tally.{Tally}
use Rattle.im_feed.specs.Sent.{AreFirst, WasWaited, WereWaited}

-- the tally behind a turn: a member was read, it was pushed, memory was out, or the turn was waited
abbrev pub when_read : Tally → Tally
when_read tally = record tally { left = tally.left - 1 }

abbrev pub when_sent : Tally → Tally
when_sent tally = record tally { left = tally.left - 1; sent = tally.sent + 1 }

abbrev pub when_lacked : Tally → Tally
when_lacked tally = record tally { left = tally.left - 1; lacks = tally.lacks + 1 }

abbrev pub when_waited : Tally → Tally
when_waited tally = record tally { left = tally.left - 1; waits = tally.waits + 1 }

-- the member in hand was pushed, once the feed had been full in so many turns
pub record WasPushed (waited : ℕ) (member : Member) (before after : Tally) (old new : List Member) : Type 0 where
  pub some : waited + 1 ≤ before.left
  pub tally : after ≡ record before { left = before.left - (waited + 1); sent = before.sent + 1; waits = before.waits + waited }
  pub pushed : new ≡ old ++ member ∷ []

-- the feed was full in all turns that were left, so many, and the member in hand was not pushed
pub record WasKept (waited : ℕ) (before after : Tally) (old new : List Member) : Type 0 where
  pub all : waited ≡ before.left
  pub tally : after ≡ record before { left = 0; waits = before.waits + waited }
  pub pushed : new ≡ old

-- a member was offered to the feed in the turns that were left
pub record IsOffered (room : ℕ) (member : Member) (before after : Tally) (old new : List Member) : Type 0 where
  pub waited : ℕ
  pub full : WasWaited room waited old
  pub ended : WasPushed waited member before after old new ⊎ WasKept waited before after old new

-- a member is being offered, and the feed was full each time
pub record IsOffering (room : ℕ) (before after : Tally) (old new : List Member) : Type 0 where
  pub waited : ℕ
  pub some : waited ≤ before.left
  pub full : WasWaited room waited old
  pub tally : after ≡ record before { left = before.left - waited; waits = before.waits + waited }
  pub pushed : new ≡ old

-- ---- rounds

-- the next member was read and offered
pub record WasRead (room : ℕ) (before after : Tally) (pushed now_pushed : List Member) (old new : Known) : Type 0 where
  pub member : Member
  pub found : Found old new (λ at. member_at at (before.sent + 1) ≡ Some member)
  pub offered : IsOffered room member (when_read before) after pushed now_pushed

-- it was not there yet
pub record WasIdle (sessions : ℕ) (before after : Tally) (pushed now_pushed : List Member) (old new : Known) : Type 0 where
  pub missed : Missed old new (λ at. (scn at < before.sent + 1) × (leaves at ≢ sessions))
  pub tally : after ≡ when_waited before
  pub same : now_pushed ≡ pushed

-- memory was out
pub record WasLacking (before after : Tally) (pushed now_pushed : List Member) (old new : Known) : Type 0 where
  pub missed : Missed old new (λ at. ⊤)
  pub tally : after ≡ when_lacked before
  pub same : now_pushed ≡ pushed

-- it was not there, and all sessions had left
pub record WasOver (sessions : ℕ) (before after : Tally) (pushed now_pushed : List Member) (old new : Known) : Type 0 where
  pub missed : Missed old new (λ at. (scn at < before.sent + 1) × (leaves at ≡ sessions))
  pub tally : after ≡ before
  pub same : now_pushed ≡ pushed

-- a round, and whether the job is over with it
abbrev pub IsRound : ℕ → ℕ → Tally → Tally → List Member → List Member → Known → Known → Bool → Type 0
IsRound room sessions before after pushed now_pushed old new true = WasOver sessions before after pushed now_pushed old new
IsRound room sessions before after pushed now_pushed old new false =
    WasRead room before after pushed now_pushed old new ⊎ WasIdle sessions before after pushed now_pushed old new
    ⊎ WasLacking before after pushed now_pushed old new

-- ---- all rounds so far

-- so far so many members were sent, so many turns lacked memory and so many were waited; a member was read besides that is not sent
pub record IsSending (room turns sessions hand : ℕ) (old : Known) (tally : Tally) (pushed : List Member) (now : Known) : Type 0 where
  pub kept : Counted old now
  pub after : After (AreOthers old.side) old.log now.log
  pub first : AreFirst tally.sent pushed now.log
  pub waited : WereWaited room sessions tally.sent tally.lacks tally.waits pushed old now
  pub made : tally.left + (2 * tally.sent + tally.lacks + tally.waits) + hand ≡ turns

-- such a member is in hand only where no turn is left
pub record IsGoing (room turns sessions : ℕ) (old : Known) (tally : Tally) (pushed : List Member) (now : Known) : Type 0 where
  pub hand : ℕ
  pub few : hand ≤ 1
  pub free : 1 ≤ tally.left → hand ≡ 0
  pub is : IsSending room turns sessions hand old tally pushed now
