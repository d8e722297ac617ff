use Rattle.check_parts.specs.Fetching.{AreFetched}
use Rattle.check_parts.proofs.unit.fetched_of.Given as goal

abbrev pub invariant-loop-i : goal.invariant-loop-i
invariant-loop-i l = AreFetched l.fetched.items l.i
