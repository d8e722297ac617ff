use Rattle.std.proofs.Common.{◌≡◌}
use Rattle.crossbeam_queue.specs.Passes.{ruled_capacity}
use Rattle.im_feed.specs.Passes.{IsSender, pushed}
use Rattle.im_feed.specs.inner.Sending.{IsOffering}
use Rattle.im_feed.proofs.sending.offer.Given as goal

-- the member is still in hand
abbrev pub invariant-loop-tally : goal.invariant-loop-tally
invariant-loop-tally g l = record {
  sender : IsSender l.fn.feed l.pass;
  hand : l.hand ≡ l.fn.member;
  offering : IsOffering (ruled_capacity l.fn.feed) l.fn.tally l.tally (pushed l.fn.pass) (pushed l.pass);
}

abbrev pub decreases-loop-tally : goal.decreases-loop-tally
decreases-loop-tally g l = l.tally.left
