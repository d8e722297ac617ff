use Rattle.im_history.specs.Puts.{lent_change}
use Rattle.im_text.specs.Entries.{change_record}
use Rattle.im_text.proofs.PageLemmas.{ends-more}
use Rattle.im_text.proofs.ReadLemmas.{map-take-read}
use Rattle.im_text.proofs.entries.put_changes.Goals as goal

pub loop-at-preserved : goal.loop-at-preserved
loop-at-preserved c =
    let read = map-take-read (change_record c.args.place) c.args.changes.now c.loop-at.at (lent_change c.at.result) c.at.ensures in
    rw read (ends-more _ _ _ _ _ c.loop-at.invariant c.in_ok-put_change.ensures)
