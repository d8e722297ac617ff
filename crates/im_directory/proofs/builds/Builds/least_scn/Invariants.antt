use Rattle.std.proofs.Common.{◌≡◌, take}
use Rattle.im_history.specs.Horizon.{least}
use Rattle.im_directory.specs.Slots.{scns_among}
use Rattle.im_directory.proofs.builds.Builds.least_scn.Given as goal

-- the least of the number and the SCNs of the held builds so far
abbrev pub invariant-loop-build : goal.invariant-loop-build
invariant-loop-build l = l.least ≡ least l.most (scns_among (take l.build-index l.self))
