use Rattle.std.proofs.Common.{arith, refl, ◌∙◌}
use Rattle.im_shell.proofs.SentLemmas.{OnErr-always, IsSame-start, IsSame-then}
use Rattle.im_shell.proofs.PlayLemmas.{IsGoing-start, IsGoing-next, IsGoing-end, IsGoing-part, IsGoing-stopped, IsGoing-stuck, next_in, stopped_in}
use Rattle.im_play.proofs.ForCallers.{between-start, machine-start}
use Rattle.im_shell.proofs.play.play_lines.Goals as goal

pub loop-rest-init : goal.loop-rest-init
loop-rest-init g c = record {
  same = IsSame-start _;
  going = IsGoing-start c.args.writer.now.shown _ c.args.script.now _ _ _ _ (machine-start _ _ _ _ c.requires.empty c.requires.unused c.requires.unused_background)
      c.requires.none_waits;
  between = between-start _ _ _ _ c.requires.empty c.requires.unused c.requires.unused_background;
  limits = refl;
  later = omega arith;
}

pub returns-in_err-play_next-clause-err : goal.returns-in_err-play_next-clause-err
returns-in_err-play_next-clause-err g c =
    OnErr-always _ (IsGoing-stopped c.args.writer.now.shown _ _ _ _ _ _ _ _ _ _ _ _ _ _ _ c.loop-rest.invariant.going c.first_line.ensures.lines
    (stopped_in _ _ c.loop-rest.invariant.limits _ _ _ _ _ _ _ _ _ c.in_err-play_next.ensures.err))

pub returns-in_err-flush_piece-clause-err : goal.returns-in_err-flush_piece-clause-err
returns-in_err-flush_piece-clause-err g c =
    OnErr-always _ (IsGoing-stuck c.args.writer.now.shown _ _ _ _ _ _ _ _ _ _ _ _ _ _ _ _ _
    c.loop-rest.invariant.going c.first_line.ensures.lines c.first_line.ensures.shorter
    (next_in _ c.args.writer.now.shown _ _ c.loop-rest.invariant.same.shown c.loop-rest.invariant.limits _ _ _ _ _ _ _ _ _ _ c.in_ok-play_next.ensures.ok) c.in_err-flush_piece.ensures.err)

pub loop-rest-preserved : goal.loop-rest-preserved
loop-rest-preserved g c = record {
  same = IsSame-then _ _ _ (IsSame-then _ _ _ c.loop-rest.invariant.same c.play_next.ensures.same) c.flush_piece.ensures.same;
  going = IsGoing-next c.args.writer.now.shown _ _ _ _ _ _ _ _ _ _ _ _ _ _ _ _ _ _ c.loop-rest.invariant.going c.first_line.ensures.lines c.first_line.ensures.shorter
      (next_in _ c.args.writer.now.shown _ _ c.loop-rest.invariant.same.shown c.loop-rest.invariant.limits _ _ _ _ _ _ _ _ _ _ c.in_ok-play_next.ensures.ok) c.in_ok-flush_piece.ensures.ok;
  between = c.play_next.ensures.between;
  limits = c.play_next.ensures.limits ∙ c.loop-rest.invariant.limits;
  later = omega (arith, c.loop-rest.invariant.later, c.play_next.ensures.later, c.flush_piece.ensures.later);
}

pub returns-in_err-flush-clause-err : goal.returns-in_err-flush-clause-err
returns-in_err-flush-clause-err g c = OnErr-always _ (IsGoing-part c.args.writer.now.shown _ _ _ _ _ _ _ _ _ _ _ c.loop-rest.invariant.going c.in_err-flush.ensures.err)

pub returns-clause-ok : goal.returns-clause-ok
returns-clause-ok g c =
    IsGoing-end c.args.writer.now.shown _ _ _ _ _ _ _ _ _ _ _ _ c.loop-rest.invariant.going (omega arith) c.in_ok-flush.ensures.ok c.in_ok-flush.ensures.none_left
