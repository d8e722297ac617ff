use Rattle.std.proofs.Common.{arith}
use Rattle.im_play.proofs.ForCallers.{unused-all, unused-push}
use Rattle.im_play.proofs.players.unused_sessions.Goals as goal

pub loop-who-init : goal.loop-who-init
loop-who-init c = c.in_ok-sessions.ensures.items

pub loop-who-preserved : goal.loop-who-preserved
loop-who-preserved c =
    unused-push c.loop-who.sessions.items c.push.new.self.items c.new.result c.loop-who.who c.loop-who.invariant c.new.ensures
    c.in_ok-push.ensures.items

pub returns : goal.returns
returns c = unused-all c.loop-who.sessions.items c.loop-who.who c.loop-who.invariant (omega arith)
