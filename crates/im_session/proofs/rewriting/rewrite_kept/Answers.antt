use Rattle.std.proofs.Common.{◌≤◌, inr, List, length, sym, subst}
use Rattle.im_history.specs.declared.cursors.TheConstants.{OWN_CURSOR}
use Rattle.im_history.specs.declared.change.Change.{Change}
use Rattle.im_history.specs.Legal.{MayWrite}
use Rattle.im_session.specs.inner.Rests.{IsRest}
use Rattle.im_session.proofs.ReadsLemmas.{longer-same}
use Rattle.im_session.proofs.ScanLemmas.{scan-lacks}
use Rattle.im_session.proofs.WriteLemmas.{may-rewrite}
use Rattle.im_session.proofs.rewriting.rewrite_kept.Goals as goal
use Rattle.im_statements.specs.Outcomes.{said}
use Rattle.im_statements.specs.Writes.{write_or_end, written}

pub write_changes-requires-clause-may : goal.write_changes-requires-clause-may
write_changes-requires-clause-may g c = λ some.
    subst (λ (changes : List Change). MayWrite (g.H.Reach.known c.args.reach.now).log c.args.context.now.who OWN_CURSOR changes) (sym c.in-Ok.ensures)
    (may-rewrite c.args.context.now.who c.args.rewriting.now c.args.view.now c.args.rows.items (g.H.Reach.known c.args.reach.now) c.requires.scan c.requires.may
    c.requires.rows (subst (λ (changes : List Change). 1 ≤ length changes) c.in-Ok.ensures some))

pub returns-in-Ok-clause-rest : goal.returns-in-Ok-clause-rest
returns-in-Ok-clause-rest g c = λ late shut.
    subst (λ (changes : List Change).
    IsRest c.args.context.now.who 1 (g.H.Reach.known c.args.reach.now)
    (write_or_end (g.H.Reach.known c.args.reach.now).limits c.args.context.now.who c.args.view.now.place c.args.view.now.scn c.args.marks changes
    (written c.args.rewriting.now)) (said c.write_changes.result) late)
    c.in-Ok.ensures (c.write_changes.ensures.rest late shut)

pub returns-in-Err-clause-rest : goal.returns-in-Err-clause-rest
returns-in-Err-clause-rest g c = λ late shut.
    rw c.out_of_memory.ensures
    (scan-lacks c.args.context.now.who 1 (g.H.Reach.known c.args.reach.now) late _ c.requires.speaks c.requires.scan.is_open shut)

pub returns-in-Err-clause-longer : goal.returns-in-Err-clause-longer
returns-in-Err-clause-longer g c = longer-same (g.H.Reach.known c.args.reach.now)

pub returns-in-Err-clause-marks : goal.returns-in-Err-clause-marks
returns-in-Err-clause-marks g c = inr (1, c.out_of_memory.ensures)
