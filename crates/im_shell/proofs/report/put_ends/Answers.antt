use Rattle.std.proofs.Common.{◌<◌, arith, get_or, length, None, refl}
use Rattle.std.proofs.lemmas.List.{at_drop_all}
use Rattle.im_worker.specs.declared.work.Ended.TheVariants.{Spent}
use Rattle.im_shell.specs.Reports.{end_text, ends_text}
use Rattle.im_shell.proofs.ReportLemmas.{ends-next}
use Rattle.im_shell.proofs.SentLemmas.{OnErr-always, IsSame-start, IsSame-then, IsPutTo-start, IsPutTo-next, IsPutTo-end, IsPutTo-stop}
use Rattle.im_shell.proofs.report.put_ends.Goals as goal

pub loop-ended-init : goal.loop-ended-init
loop-ended-init g c = record { same = IsSame-start _; to = IsPutTo-start _ _ _; who = refl; later = omega arith }

pub loop-ended-preserved : goal.loop-ended-preserved
loop-ended-preserved g c =
    let below : c.loop-ended.ended-index < length c.args.ends.now = omega arith in
    record {
      same = IsSame-then _ _ _ c.loop-ended.invariant.same c.put_next.ensures.same;
      to = IsPutTo-next _ _ _ _ _ _ (end_text c.loop-ended.who (get_or c.args.ends.now c.loop-ended.ended-index (Spent 0 None))) _ _ c.loop-ended.invariant.to
          (ends-next c.args.ends.now c.loop-ended.who c.loop-ended.ended-index (Spent 0 None) below)
          (rw c.end_passage.ensures at c.in_ok-put_next.ensures.ok);
      who = omega (arith, c.loop-ended.invariant.who);
      later = omega (arith, c.loop-ended.invariant.later, c.put_next.ensures.later);
    }

pub returns-in_err-put_next-clause-err : goal.returns-in_err-put_next-clause-err
returns-in_err-put_next-clause-err g c =
    let below : c.loop-ended.ended-index < length c.args.ends.now = omega arith in
    OnErr-always _ (IsPutTo-stop _ _ _ _ _ _
    (end_text c.loop-ended.who (get_or c.args.ends.now c.loop-ended.ended-index (Spent 0 None))) _ c.loop-ended.invariant.to
    (ends-next c.args.ends.now c.loop-ended.who c.loop-ended.ended-index (Spent 0 None) below)
    (rw c.end_passage.ensures at c.in_err-put_next.ensures.err))

pub returns-clause-ok : goal.returns-clause-ok
returns-clause-ok g c =
    IsPutTo-end _ _ _ _ _ c.loop-ended.invariant.to (at_drop_all (ends_text c.loop-ended.who) c.args.ends.now c.loop-ended.ended-index (omega arith))
