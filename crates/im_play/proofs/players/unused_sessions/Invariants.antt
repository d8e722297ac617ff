use Rattle.std.proofs.Common.{◌≡◌}
use Rattle.im_play.specs.Between.{unused_from}
use Rattle.im_play.proofs.players.unused_sessions.Given as goal

abbrev pub invariant-loop-who : goal.invariant-loop-who
invariant-loop-who l = l.sessions.items ≡ unused_from 0 l.who
