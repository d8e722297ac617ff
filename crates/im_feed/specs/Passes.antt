-- What a pass of a feed knows, and which of the two ends it stands at.
use Rattle.std.specs.Prelude.{◌≡◌, Bool, true, List, Option}
use Rattle.crossbeam_queue.specs.Passes.{Pass, IsPassOf, view}
use Rattle.crossbeam_queue.specs.declared.array_queue.Doing.{Doing}
use Rattle.crossbeam_queue.specs.declared.array_queue.Slotted.{Slotted}
use Rattle.im_history.specs.declared.member.Member.{Member}
use Rattle.im_feed.specs.declared.rule.FeedView.{FeedView}

-- what a pass knows: whether it pushes and what was pushed, whether it pops and what was popped
abbrev pub feed_view : Bool → Bool → List Member → List Member → FeedView
feed_view pushes pops pushed popped = record { pushes = pushes; pops = pops; pushed = pushed; popped = popped }

-- what the sender pushed, the first member first: the sender's pass knows it, and the standby's once the two have met
abbrev pub pushed : Pass Member FeedView → List Member
pushed pass = (view pass).pushed

-- what the standby popped, the first member first: the standby's pass knows it
abbrev pub popped : Pass Member FeedView → List Member
popped pass = (view pass).popped

module _ {Q A : Type 0} where
  -- the sender's pass of this feed
  pub record IsSender (feed : Slotted (Option Member) (Doing Member FeedView) Q A) (pass : Pass Member FeedView) : Type 0 where
    pub of : IsPassOf feed pass
    pub may : (view pass).pushes ≡ true

  -- the standby's pass of this feed
  pub record IsStandby (feed : Slotted (Option Member) (Doing Member FeedView) Q A) (pass : Pass Member FeedView) : Type 0 where
    pub of : IsPassOf feed pass
    pub may : (view pass).pops ≡ true

-- the standby's pass has met the sender's: it knows all that was pushed, and nothing more can be
pub record HasMet (pass : Pass Member FeedView) : Type 0 where
  pub both : (view pass).pushes ≡ true
