use Rattle.std.proofs.Common.{◌<◌, arith, length}
use Rattle.std.proofs.lemmas.List.{at_drop_all}
use Rattle.im_text.specs.Report.{line_text}
use Rattle.im_shell.specs.Reports.{answers_text}
use Rattle.im_shell.proofs.ReportLemmas.{answers-next}
use Rattle.im_shell.proofs.SentLemmas.{OnErr-always, IsSame-start, IsSame-then, IsPutTo-start, IsPutTo-next, IsPutTo-end, IsPutTo-stop}
use Rattle.im_shell.proofs.report.put_answers.Goals as goal

pub loop-line-init : goal.loop-line-init
loop-line-init g c = record { same = IsSame-start _; to = IsPutTo-start _ _ _; later = omega arith }

pub loop-line-preserved : goal.loop-line-preserved
loop-line-preserved g c =
    let below : c.loop-line.line-index < length c.args.answers.now = omega arith in
    record {
      same = IsSame-then _ _ _ c.loop-line.invariant.same c.put_next.ensures.same;
      to = IsPutTo-next _ _ _ _ _ _ (line_text c.loop-line-item.result.0 c.loop-line-item.result.1) _ _ c.loop-line.invariant.to
          (answers-next c.args.answers.now c.loop-line.line-index c.loop-line-item.result c.loop-line-item.is below)
          c.in_ok-put_next.ensures.ok;
      later = omega (arith, c.loop-line.invariant.later, c.put_next.ensures.later);
    }

pub returns-in_err-put_next-clause-err : goal.returns-in_err-put_next-clause-err
returns-in_err-put_next-clause-err g c =
    let below : c.loop-line.line-index < length c.args.answers.now = omega arith in
    OnErr-always _ (IsPutTo-stop _ _ _ _ _ _ (line_text c.loop-line-item.result.0 c.loop-line-item.result.1) _ c.loop-line.invariant.to
    (answers-next c.args.answers.now c.loop-line.line-index c.loop-line-item.result c.loop-line-item.is below)
    c.in_err-put_next.ensures.err)

pub returns-clause-ok : goal.returns-clause-ok
returns-clause-ok g c =
    IsPutTo-end _ _ _ _ _ c.loop-line.invariant.to (at_drop_all answers_text c.args.answers.now c.loop-line.line-index (omega arith))
