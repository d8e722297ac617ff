use Rattle.std.proofs.Common.{◌≡◌}
use Rattle.check_parts.proofs.turn.write_notes.Given as goal

-- the pass has only seen more and written more
abbrev pub invariant-loop-text : goal.invariant-loop-text
invariant-loop-text g l = l.pass ≡ record l.initial.pass { seen = l.pass.seen; mine = l.pass.mine }
