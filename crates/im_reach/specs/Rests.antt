-- What is left of a line that is played over a side of a store, whatever the line answers.
use Rattle.std.specs.Prelude.{◌≡◌, ℕ}
use Rattle.im_history.specs.declared.entry.What.{What}
use Rattle.im_history.specs.History.{History, behind}
use Rattle.im_plan.specs.Goes.{After, Goes, Others, Rest}
use Rattle.im_plan.specs.Plan.{Plan}
use Rattle.im_reach.specs.Sides.{AreOthers, Known, speaks}

-- nothing changes of what is known but the history
abbrev pub Logged : Known → Known → Type 0
Logged old new = new ≡ record old { log = new.log }

-- or the history, and how many calls missed
abbrev pub Counted : Known → Known → Type 0
Counted old new = new ≡ record old { log = new.log; misses = new.misses }

-- what is kept of what is known while a line goes on: the side, and all of it where the history alone changes
pub record IsKeeping (keeps : Known → Known → Type 0) : Type 0 where
  pub same : (old : Known) → keeps old old
  pub both : (old middle new : Known) → keeps old middle → keeps middle new → keeps old new
  pub side : (old new : Known) → keeps old new → new.side ≡ old.side
  pub logged : (old : Known) (log : History) → keeps old (record old { log = log })

-- others alone went on
pub record Went (keeps : Known → Known → Type 0) (old new : Known) : Type 0 where
  pub after : After (AreOthers old.side) old.log new.log
  pub now : keeps old new

-- others went on, and then a call added this entry
pub record Onward (who : ℕ) (old new : Known) (what : What) (at : History) : Type 0 where
  pub after : After (AreOthers old.side) old.log at
  pub now : new ≡ record old { log = behind at who what }

-- k entries of the line having been made, it goes by this plan to its outcome. Others add no entry of a number that the side
-- speaks for
pub record IsRest {R : Type 0} (keeps : Known → Known → Type 0) (who : ℕ) (amends : ℕ → Plan R) (k : ℕ) (old : Known) (plan : Plan R)
    (outcome : R) (new : Known) : Type 0 where
  pub kept : keeps old new
  pub rest : Rest (Others (speaks old.side)) who amends k old.log plan outcome new.log

-- the same where memory does not run out any more: the line's deciding entry was made, or it is amended
pub record IsDecided {R : Type 0} (keeps : Known → Known → Type 0) (who : ℕ) (old : Known) (plan : Plan R) (outcome : R)
    (new : Known) : Type 0 where
  pub kept : keeps old new
  pub goes : Goes (Others (speaks old.side)) who old.log plan outcome new.log
