use Rattle.check_store.proofs.GoingLemmas.{side-went, went-both, went-none}
use Rattle.check_store.proofs.lines.play_each.Goals as goal

pub play-requires-clause-sole : goal.play-requires-clause-sole
play-requires-clause-sole g c κs within =
    side-went 1 (g.H.Reach.known c.args.store.now) (g.H.Reach.known c.loop-line.store) c.loop-line.invariant.went c.requires.sole

pub loop-line-init : goal.loop-line-init
loop-line-init g c = record { session = c.requires.session; agrees = c.requires.agrees; went = went-none 1 (g.H.Reach.known c.args.store.now) }

pub loop-line-preserved : goal.loop-line-preserved
loop-line-preserved g c = record {
  session = c.play.ensures.session;
  agrees = c.play.ensures.agrees;
  went =
      went-both 1 (g.H.Reach.known c.args.store.now) (g.H.Reach.known c.loop-line.store) (g.H.Reach.known c.play.new.store) c.loop-line.invariant.went
      c.play.ensures.went;
}
