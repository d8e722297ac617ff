use Rattle.std.proofs.Common.{◌∙◌}
use Rattle.im_feed.proofs.RoundLemmas.{offering-next}
use Rattle.im_feed.proofs.sending.offer.Goals as goal

pub loop-tally-preserved : goal.loop-tally-preserved
loop-tally-preserved g c =
    let was = c.loop-tally.invariant in
    let back = c.in-Err.ensures.pushed in
    record {
      sender = c.in-Err.ensures.sender;
      hand = back.0 ∙ was.hand;
      offering = offering-next _ _ _ _ _ _ _ was.offering c.loop-tally-test.true c.note_wait.ensures back.1 back.2;
    }
