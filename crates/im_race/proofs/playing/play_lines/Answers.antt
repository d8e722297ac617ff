use Rattle.std.proofs.Common.{◌∙◌, sym}
use Rattle.im_race.proofs.PlayingLemmas.{among-passed, among-played, went-more}
use Rattle.im_race.proofs.playing.play_lines.Goals as goal
use Rattle.im_race.proofs.playing.play_lines.Goals.{else-speaks_in, then-speaks_in+in_ok-push}

pub loop-line-preserved : goal.loop-line-preserved
loop-line-preserved g c = elim c.if-speaks_in.branch [
  | then-speaks_in+in_ok-push w ↦
      rw (w.reach-is, w.session-is, w.replies-is, w.in_ok-push.ensures.items)
      (among-played c.args.who c.args.session.now (g.H.Reach.known c.args.reach.now) c.args.lines.now c.loop-line.line-index c.loop-line.replies.items
      c.loop-line.session (g.H.Reach.known c.loop-line.reach) c.loop-line.invariant c.line-item.result c.loop-line-test.true c.line-item.is
      w.play_line.new.session (g.H.Reach.known w.play_line.new.reach) w.play_line.result (sym c.speaks_in.ensures ∙ w.if-speaks_in.true)
      (went-more c.args.who (g.H.Reach.known c.args.reach.now) c.loop-line.session w.play_line.new.session (g.H.Reach.known c.loop-line.reach)
      (g.H.Reach.known w.play_line.new.reach) c.loop-line.invariant.went w.play_line.ensures.who w.play_line.ensures.known
      w.play_line.ensures.agrees w.play_line.ensures.stays) w.play_line.ensures.plays)
  | else-speaks_in w ↦
      rw (w.reach-is, w.session-is, w.replies-is)
      (among-passed c.args.who c.args.session.now (g.H.Reach.known c.args.reach.now) c.args.lines.now c.loop-line.line-index c.loop-line.replies.items
      c.loop-line.session (g.H.Reach.known c.loop-line.reach) c.loop-line.invariant c.line-item.result c.loop-line-test.true c.line-item.is
      (sym c.speaks_in.ensures ∙ w.if-speaks_in.false))
]
