-- The rule of a feed: what was pushed is what was popped and then what the queue holds, and it is lawful. One pass at most pushes, and it
-- knows what was pushed; one at most pops, and it knows what was popped.
use Rattle.std.specs.Prelude.{◌≡◌, ℕ, true, List, ◌++◌}
use mathlib.Core.Option.{some}
use lib.ListN.{get_elem?}
use Rattle.im_history.specs.declared.member.Member.{Member}
use Rattle.im_feed.specs.declared.rule.FeedView.{FeedView}
use Rattle.im_feed.specs.Lawful.{AreLawful}

-- what the pass of this number knows is so
pub record Fits (sender standby : ℕ) (pushed popped : List Member) (port : ℕ) (v : FeedView) : Type 0 where
  pub sends : v.pushes ≡ true → (port ≡ sender) × (v.pushed ≡ pushed)
  pub takes : v.pops ≡ true → (port ≡ standby) × (v.popped ≡ popped)

pub record IsInOrder (items : List Member) (views : List FeedView) : Type 0 where
  pub sender : ℕ
  pub standby : ℕ
  pub pushed : List Member
  pub popped : List Member
  pub order : pushed ≡ popped ++ items
  pub lawful : AreLawful pushed
  pub fit : (port : ℕ) (v : FeedView) → get_elem? views port ≡ some v → Fits sender standby pushed popped port v

-- the whole list ends with these members
pub record IsEnd (last whole : List Member) : Type 0 where
  pub before : List Member
  pub is : whole ≡ before ++ last
