use Rattle.std.proofs.Common.{◌≡◌, replicate}
use Rattle.im_txn.specs.Activity.{idle}
use Rattle.im_txn.proofs.sessions.Sessions.new.Given as goal

-- each session so far is idle
abbrev pub invariant-loop-count : goal.invariant-loop-count
invariant-loop-count l = l.sessions.items ≡ replicate l._count idle
