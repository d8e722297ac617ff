use Rattle.im_history.proofs.PlaceLaws.{Walks}
use Rattle.im_history.proofs.stored.History.writes_before.Given as goal

abbrev pub invariant-loop-at : goal.invariant-loop-at
invariant-loop-at g l = Walks l.self-inside.entries.items l.place l.at l.pending.items l.fn.steps l.steps

abbrev pub decreases-loop-at : goal.decreases-loop-at
decreases-loop-at g l = l.at
