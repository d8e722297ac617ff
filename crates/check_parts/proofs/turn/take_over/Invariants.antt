use Rattle.std.proofs.Common.{◌≡◌}
use Rattle.check_parts.proofs.turn.take_over.Given as goal

-- the pass has only seen more
abbrev pub invariant-loop-round : goal.invariant-loop-round
invariant-loop-round g l = l.pass ≡ record l.initial.pass { seen = l.pass.seen; mine = l.pass.mine }
