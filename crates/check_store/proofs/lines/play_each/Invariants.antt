use Rattle.std.proofs.Common.{◌≡◌}
use Rattle.check_store.specs.Going.{WentOn}
use Rattle.im_session.specs.Sessions.{Agrees}
use Rattle.check_store.proofs.lines.play_each.Given as goal

-- the session of number 1 goes on, and agrees with the store
abbrev pub invariant-loop-line : goal.invariant-loop-line
invariant-loop-line g l = record {
  session : l.session.who ≡ 1;
  agrees : Agrees l.session (g.H.Reach.known l.store);
  went : WentOn 1 (g.H.Reach.known l.fn.store) (g.H.Reach.known l.store);
}
