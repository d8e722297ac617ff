use Rattle.im_session.proofs.PinLemmas.{asked-kept}
use Rattle.im_session.proofs.serving.served_part.Goals as goal

pub pinned_part-made-requires-clause-asked : goal.pinned_part-made-requires-clause-asked
pinned_part-made-requires-clause-asked g c =
    asked-kept c.args.context.now.who c.args.cursor.now (g.H.Reach.known c.args.reach.now) c.requires.kept

pub pinned_part-made-requires-clause-pin : goal.pinned_part-made-requires-clause-pin
pinned_part-made-requires-clause-pin g c = ((g.H.Reach.known c.args.reach.now).log, c.in_ok-served.ensures.pin)
