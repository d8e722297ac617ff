use Rattle.std.specs.Prelude.{◌≡◌, take}
use Rattle.im_standby.proofs.ends.copied.Given as goal

abbrev pub invariant-loop-end : goal.invariant-loop-end
invariant-loop-end l = l.copy.items ≡ take l.end-index l.fn.ends
