use Rattle.std.proofs.Common.{◌≡◌, ◌≤◌, ◌∙◌, [], length, sym, subst, arith}
use Rattle.std.proofs.lemmas.Grind.{common_steps}
use Rattle.im_plan.specs.Plan.{Plan}
use Rattle.im_session.specs.inner.Rests.{IsRest}
use Rattle.im_session.specs.inner.Writes.{write_reply}
use Rattle.im_session.proofs.ReadsLemmas.{longer-added, longer-found, longer-same}
use Rattle.im_session.proofs.RefusalLemmas.{write-marks}
use Rattle.im_session.proofs.ScanLemmas.{open-went, scan-ended, went-found}
use Rattle.im_session.proofs.WritingLemmas.{open-wrote, some-write, write-done, write-told}
use Rattle.im_session.proofs.rewriting.write_changes.Goals as goal
use Rattle.im_statements.specs.Outcomes.{Outcome, said}
use Rattle.im_statements.specs.Turns.{served_reply}
use Rattle.im_history.specs.declared.cursors.TheConstants.{OWN_CURSOR}
use Rattle.im_statements.specs.Writes.{written}

pub returns-then-is_empty-clause-rest : goal.returns-then-is_empty-clause-rest
returns-then-is_empty-clause-rest g c = λ late shut.
    let none : c.args.changes.items ≡ [] = grind (arith, common_steps, c.if-is_empty.ensures) in
    rw (none, c.written.ensures)
    (scan-ended c.args.context.now.who 1 (g.H.Reach.known c.args.reach.now) late
    (served_reply c.args.view.now.place c.args.marks (written c.args.rewriting.now 0)) shut)

pub returns-in-Ok-clause-cursor : goal.returns-in-Ok-clause-cursor
returns-in-Ok-clause-cursor g c =
    open-wrote c.args.context.now.who (g.H.Reach.known c.args.reach.now) (g.H.Reach.known c.write.new.self) c.args.changes.items _ c.requires.speaks
    c.requires.scan.is_open c.in-Ok.ensures.ok

pub returns-in-Ok-clause-rest : goal.returns-in-Ok-clause-rest
returns-in-Ok-clause-rest g c = λ late shut.
    let some : 1 ≤ length c.args.changes.items = grind (arith, common_steps, c.if-is_empty.ensures) in
    rw (c.written-in-Ok.ensures, c.len-rows.ensures ∙ c.args.changes.ok.0)
    (subst (λ (p : Plan Outcome).
    IsRest c.args.context.now.who 1 (g.H.Reach.known c.args.reach.now) p
    (said (served_reply c.in-Ok.place c.args.marks (written c.args.rewriting.now (length c.args.changes.items)))) late)
    (sym (some-write c.args.context.now.who (g.H.Reach.known c.args.reach.now).limits
    c.args.view.now.place c.args.view.now.scn c.args.marks c.args.changes.items
    (written c.args.rewriting.now) some))
    (write-done c.args.context.now.who 1 (g.H.Reach.known c.args.reach.now) (g.H.Reach.known c.write.new.self) late c.args.view.now c.args.marks
    c.args.changes.items (written c.args.rewriting.now (length c.args.changes.items)) c.requires.speaks c.requires.scan shut c.in-Ok.place
    c.in-Ok.ensures.ok))

pub returns-in-Err-clause-cursor : goal.returns-in-Err-clause-cursor
returns-in-Err-clause-cursor g c =
    open-went c.args.context.now.who OWN_CURSOR (g.H.Reach.known c.args.reach.now) (g.H.Reach.known c.write.new.self) c.requires.speaks
    (went-found (g.H.Reach.known c.args.reach.now) (g.H.Reach.known c.write.new.self) _ c.in-Err.ensures.err) c.requires.scan.is_open

pub returns-in-Err-clause-rest : goal.returns-in-Err-clause-rest
returns-in-Err-clause-rest g c = λ late shut.
    let some : 1 ≤ length c.args.changes.items = grind (arith, common_steps, c.if-is_empty.ensures) in
    rw c.write_refused.ensures
    (subst (λ (p : Plan Outcome).
    IsRest c.args.context.now.who 1 (g.H.Reach.known c.args.reach.now) p (said (write_reply 1 c.in-Err.refused.place c.args.marks c.in-Err.refused.why)) late)
    (sym (some-write c.args.context.now.who (g.H.Reach.known c.args.reach.now).limits
    c.args.view.now.place c.args.view.now.scn c.args.marks c.args.changes.items
    (written c.args.rewriting.now) some))
    (write-told c.args.context.now.who 1 (g.H.Reach.known c.args.reach.now) (g.H.Reach.known c.write.new.self) late c.args.view.now c.args.marks
    c.args.changes.items (written c.args.rewriting.now (length c.args.changes.items)) c.requires.speaks c.requires.scan shut c.in-Err.refused
    c.in-Err.ensures.err))

pub returns-then-is_empty-clause-longer : goal.returns-then-is_empty-clause-longer
returns-then-is_empty-clause-longer g c = longer-same (g.H.Reach.known c.args.reach.now)

pub returns-in-Ok-clause-longer : goal.returns-in-Ok-clause-longer
returns-in-Ok-clause-longer g c =
    longer-added c.args.context.now.who (g.H.Reach.known c.args.reach.now) (g.H.Reach.known c.write.new.self) _ _ c.in-Ok.ensures.ok

pub returns-in-Err-clause-longer : goal.returns-in-Err-clause-longer
returns-in-Err-clause-longer g c = longer-found (g.H.Reach.known c.args.reach.now) (g.H.Reach.known c.write.new.self) _ c.in-Err.ensures.err

pub returns-in-Err-clause-marks : goal.returns-in-Err-clause-marks
returns-in-Err-clause-marks g c = rw c.write_refused.ensures (write-marks 1 c.in-Err.refused.place c.args.marks c.in-Err.refused.why)
