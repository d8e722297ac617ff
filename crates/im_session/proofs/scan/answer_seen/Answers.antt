use Rattle.std.proofs.Common.{ap, refl}
use Rattle.im_replies.specs.declared.reply.Reply.{Reply}
use Rattle.im_session.specs.declared.scan.Purpose.TheVariants.{Answer}
use Rattle.im_session.proofs.CountLemmas.{own-lacked, own-marked}
use Rattle.im_session.proofs.PurposeLemmas.{behind, used-replied, used-stopped}
use Rattle.im_session.proofs.ScanLemmas.{longer-went}
use Rattle.im_session.proofs.scan.answer_seen.Goals as goal

pub returns-in-Ok-clause-used : goal.returns-in-Ok-clause-used
returns-in-Ok-clause-used g c =
    used-replied c.args.context.now.who Answer c.args.cursor.now (g.H.Reach.known c.args.reach.now) (g.H.Reach.known c.answer_scan.new.reach)
    c.requires.speaks c.requires.may c.in-Ok.ensures.went c.reply.result c.in-Ok.answered.marks
    (c.in-Ok.ensures.marks 1 (behind c.args.context.now.who Answer c.args.cursor.now (g.H.Reach.known c.args.reach.now)))
    (rw (c.reply.ensures, c.in-Ok.ensures.records) refl)

pub returns-in-Err-clause-used : goal.returns-in-Err-clause-used
returns-in-Err-clause-used g c =
    rw c.out_of_memory.ensures
    (used-stopped c.args.context.now.who Answer c.args.cursor.now (g.H.Reach.known c.args.reach.now) (g.H.Reach.known c.answer_scan.new.reach)
    c.requires.speaks c.requires.may c.in-Err.ensures.went
    (c.in-Err.ensures.err 1 (behind c.args.context.now.who Answer c.args.cursor.now (g.H.Reach.known c.args.reach.now))))

pub returns-in-Ok-clause-ticks : goal.returns-in-Ok-clause-ticks
returns-in-Ok-clause-ticks g c = λ state.
    let old = g.H.Reach.known c.args.reach.now in
    let new = g.H.Reach.known c.answer_scan.new.reach in
    own-marked c.args.context.now.who Answer c.args.cursor.now old new c.requires.may (longer-went old new c.in-Ok.ensures.went) c.reply.result
    c.args.steps.now c.answer_scan.new.steps state c.in-Ok.answered.marks (ap (λ (r : Reply). r.marks) c.reply.ensures) c.in-Ok.ensures.rows

pub returns-in-Err-clause-ticks : goal.returns-in-Err-clause-ticks
returns-in-Err-clause-ticks g c = λ state.
    let old = g.H.Reach.known c.args.reach.now in
    let new = g.H.Reach.known c.answer_scan.new.reach in
    own-lacked c.args.context.now.who Answer c.args.cursor.now old new c.requires.may (longer-went old new c.in-Err.ensures.went)
    c.out_of_memory.result c.args.steps.now c.answer_scan.new.steps state (1, c.out_of_memory.ensures) c.in-Err.ensures.ticks
