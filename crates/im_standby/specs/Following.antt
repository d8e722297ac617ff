-- What it means that a follower has taken in what was popped.
use Rattle.std.specs.Prelude.{◌≡◌, IsTrue, List, [], ◌++◌, Option, None, is_some, option_to_list}
use Rattle.im_feed.specs.Lawful.{AreLawful}
use Rattle.im_history.specs.declared.member.Member.{Member}
use Rattle.im_standby.specs.declared.follower.Drained.{Drained}
use Rattle.im_standby.specs.declared.follower.Drained.TheVariants.{Empty, NoMemory}
use Rattle.im_standby.specs.Standing.{IsOf, Standing}

-- a standby, and the member that was popped and is not applied yet, if there is one
pub record Following : Type 0 where
  pub standby : Standing
  pub hand : Option Member

-- what was popped is what the standby has applied and then the member in hand, and it is lawful
pub record Follows (follower : Following) (popped : List Member) : Type 0 where
  pub applied : List Member
  pub is_of : IsOf follower.standby applied
  pub all : popped ≡ applied ++ option_to_list follower.hand
  pub lawful : AreLawful popped

-- it follows what was popped, whatever that was
pub record IsFollowing (follower : Following) : Type 0 where
  pub popped : List Member
  pub follows : Follows follower popped

-- each that it follows, another follows too
abbrev pub FollowsOn : Following → Following → Type 0
FollowsOn old new = (popped : List Member) → Follows old popped → Follows new popped

-- no member is in hand, and all that was popped is applied
pub record HasApplied (follower : Following) (popped : List Member) : Type 0 where
  pub free : follower.hand ≡ None
  pub is_of : IsOf follower.standby popped

-- what a follower has, as it stops
abbrev pub HasStopped : Drained → Following → List Member → Type 0
HasStopped Empty follower popped = HasApplied follower popped
HasStopped NoMemory follower popped = IsTrue (is_some follower.hand)

-- this holds where it stopped at an empty feed
abbrev pub IfEmpty : Drained → Type 0 → Type 0
IfEmpty Empty P = P
IfEmpty NoMemory P = Unit {0}
