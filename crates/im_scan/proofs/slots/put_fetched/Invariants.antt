use Rattle.std.proofs.Common.{◌≡◌, drop}
use Rattle.im_scan.specs.inner.Steps.{with_fetched}
use Rattle.im_scan.proofs.slots.put_fetched.Given as goal

-- what is left makes of the rows so far what all makes of the first ones
abbrev pub invariant-loop-rid : goal.invariant-loop-rid
invariant-loop-rid l =
    with_fetched l.first l.slots (drop l.rid-index l.fetched) ≡ with_fetched l.first l.fn.slots l.fetched
