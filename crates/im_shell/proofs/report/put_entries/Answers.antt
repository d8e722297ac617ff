use Rattle.std.proofs.Common.{arith}
use Rattle.std.proofs.lemmas.List.{at_drop_all}
use Rattle.im_text.specs.Report.{entry_text}
use Rattle.im_shell.specs.Reports.{entries_text}
use Rattle.im_shell.proofs.ReportLemmas.{entries-next}
use Rattle.im_shell.proofs.SentLemmas.{OnErr-always, IsSame-start, IsSame-then, IsPutTo-start, IsPutTo-next, IsPutTo-end, IsPutTo-stop}
use Rattle.im_shell.proofs.report.put_entries.Goals as goal

pub loop-place-init : goal.loop-place-init
loop-place-init g c = record { same = IsSame-start _; to = IsPutTo-start _ _ _; later = omega arith }

pub loop-place-preserved : goal.loop-place-preserved
loop-place-preserved g c = record {
  same = IsSame-then _ _ _ c.loop-place.invariant.same c.put_next.ensures.same;
  to = IsPutTo-next _ _ _ _ _ _ (entry_text c.loop-place.place c.entry-entry.result.now) _ _ c.loop-place.invariant.to
      (entries-next c.args.history.now.entries c.loop-place.place _ c.entry-entry.ensures.entry)
      c.in_ok-put_next.ensures.ok;
  later = omega (arith, c.loop-place.invariant.later, c.put_next.ensures.later);
}

pub returns-in_err-put_next-clause-err : goal.returns-in_err-put_next-clause-err
returns-in_err-put_next-clause-err g c =
    OnErr-always _ (IsPutTo-stop _ _ _ _ _ _ (entry_text c.loop-place.place c.entry-entry.result.now) _ c.loop-place.invariant.to
    (entries-next c.args.history.now.entries c.loop-place.place _ c.entry-entry.ensures.entry)
    c.in_err-put_next.ensures.err)

pub returns-clause-ok : goal.returns-clause-ok
returns-clause-ok g c =
    IsPutTo-end _ _ _ _ _ c.loop-place.invariant.to
    (at_drop_all (entries_text c.loop-place.place) c.args.history.now.entries c.loop-place.place (omega (arith, c.len.ensures)))
