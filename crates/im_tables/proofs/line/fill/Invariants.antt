use Rattle.std.proofs.Common.{◌≡◌, ◌-◌}
use Rattle.im_tables.specs.Table.{with_range}
use Rattle.im_tables.proofs.line.fill.Given as goal

-- the elements so far are this one
abbrev pub invariant-loop-at : goal.invariant-loop-at
invariant-loop-at g l = l.elements ≡ with_range l.first (l.at - l.first) l.element l.initial.elements
