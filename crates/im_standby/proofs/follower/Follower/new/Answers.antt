use Rattle.im_standby.proofs.FollowLemmas.{follows-nothing}
use Rattle.im_standby.proofs.follower.Follower.new.Goals as goal

pub returns : goal.returns
returns c = follows-nothing c.in_ok-standby.standby c.in_ok-standby.ensures
