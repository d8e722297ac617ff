use Rattle.std.proofs.Common.{◌≡◌, drop}
use Rattle.im_statements.specs.Assigned.{assigned}
use Rattle.im_session.proofs.changes.assign.Given as goal

-- what is left makes of the values so far what all make of the first ones
abbrev pub invariant-loop-column : goal.invariant-loop-column
invariant-loop-column l = assigned (drop l.column-index l.sets) l.values ≡ assigned l.sets l.fn.values
