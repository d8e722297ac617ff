use Rattle.im_race.proofs.PlayingLemmas.{session-ended}
use Rattle.im_race.proofs.playing.play_session.Goals as goal

pub returns-in-Ok-end-clause-came : goal.returns-in-Ok-end-clause-came
returns-in-Ok-end-clause-came g c =
    session-ended c.args.who c.args.lines.now c.args.session c.play_lines.new.session (g.H.Reach.known c.args.reach.now)
    (g.H.Reach.known c.play_lines.new.reach) (g.H.Reach.known c.end.new.reach) c.in-Ok.replies.items c.of.result c.play_lines.ensures.who
    c.requires.side c.play_lines.ensures.known c.in-Ok.ensures.played c.in-Ok-end.ensures.ok c.of.ensures
