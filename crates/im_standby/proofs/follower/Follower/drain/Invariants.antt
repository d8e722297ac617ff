use Rattle.std.specs.Prelude.{◌≡◌}
use Rattle.im_feed.specs.Lawful.{IsBeginning}
use Rattle.im_feed.specs.Passes.{HasMet, IsStandby, popped, pushed}
use Rattle.im_standby.specs.Following.{Follows}
use Rattle.im_standby.proofs.follower.Follower.drain.Given as goal

-- what was popped so far is followed
abbrev pub invariant-loop : goal.invariant-loop
invariant-loop g l = record {
  next : (goal.iterator-loop g).can_next l.iterator';
  finite : (goal.iterator-loop g).is_finite l.iterator';
  standby : IsStandby l.fn.queue l.pass;
  follows : Follows l.self (popped l.pass);
  more : IsBeginning (popped l.fn.pass) (popped l.pass);
  met : HasMet l.fn.pass → HasMet l.pass;
  pushed : pushed l.pass ≡ pushed l.fn.pass;
}
