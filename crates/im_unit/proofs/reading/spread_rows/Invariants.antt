use Rattle.std.proofs.Common.{◌≡◌, ◌++◌, drop}
use Rattle.std.specs.Vec.Iter.{into_iter_items}
use Rattle.im_unit.specs.inner.Kept.{spread}
use Rattle.im_unit.proofs.reading.spread_rows.Given as goal

-- the places so far have their rows, and those that are left go to the places behind
abbrev pub invariant-loop-place : goal.invariant-loop-place
invariant-loop-place l = l.slots.items ++ spread (drop l.place l.presence) (into_iter_items l.rows) ≡ spread l.presence l.fn.rows.items
