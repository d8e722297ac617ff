use Rattle.std.proofs.Common.{◌≡◌, ◌++◌, take}
use Rattle.im_values.proofs.row.append.Given as goal

-- the values so far are copied behind those that stood there
abbrev pub invariant-loop-other : goal.invariant-loop-other
invariant-loop-other l = l.values.items ≡ l.fn.values.items ++ take l.other-index l.others
