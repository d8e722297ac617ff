use Rattle.im_standby.proofs.EndLemmas.{IsNoted-next}
use Rattle.im_standby.proofs.ends.note_piece.Goals as goal

pub loop-place-preserved : goal.loop-place-preserved
loop-place-preserved c =
    IsNoted-next c.args.ends.now.items c.loop-place.ends.items c.note.new.ends.items c.args.piece.now c.loop-place.place c.at-change.result c.at-change.ensures
    c.loop-place.invariant c.in_ok-note.ensures
