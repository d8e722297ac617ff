use Rattle.std.proofs.Common.{ap, arith}
use Rattle.im_replies.specs.declared.served.Served.{Served}
use Rattle.im_session.proofs.CountLemmas.{next-lacked, next-taken}
use Rattle.im_session.proofs.CursorLemmas.{agrees-after, agrees-merges, agrees-went, step-serves}
use Rattle.im_session.proofs.RestLemmas.{rest-lacks}
use Rattle.im_session.proofs.ScanLemmas.{found-went}
use Rattle.im_session.proofs.cursor.step.Goals as goal
use Rattle.im_session.specs.Cursors.{query_of}
use Rattle.im_session.specs.Reads.{Unread}
use Rattle.im_statements.specs.Cursors.{step_query}

pub take-requires-clause-few : goal.take-requires-clause-few
take-requires-clause-few g c =
    agrees-merges c.args.context.now.who c.args.kept.now c.in-Ok.served.part (g.H.Reach.known c.args.reach.now) c.requires.agrees c.in-Ok.ensures.part

pub returns-in-Ok-clause-rest : goal.returns-in-Ok-clause-rest
returns-in-Ok-clause-rest g c =
    step-serves c.args.context.now.who c.take.result.served c.args.kept.now c.in-Ok.served.mark (g.H.Reach.known c.args.reach.now)
    (g.H.Reach.known c.served_part.new.reach) c.take.result.reply c.requires.speaks c.requires.shut c.in-Ok.ensures.went
    c.if-kept.false c.in-Ok.ensures.mark c.take.ensures.reply

pub returns-in-Ok-clause-agrees : goal.returns-in-Ok-clause-agrees
returns-in-Ok-clause-agrees g c =
    agrees-after c.args.context.now.who c.take.result.served c.args.kept.now c.take.new.kept c.in-Ok.served.part (g.H.Reach.known c.args.reach.now)
    (g.H.Reach.known c.served_part.new.reach) c.requires.speaks c.in-Ok.ensures.went c.requires.agrees c.if-kept.false c.in-Ok.ensures.part
    c.take.ensures.kept

pub returns-in-Err-clause-rest : goal.returns-in-Err-clause-rest
returns-in-Err-clause-rest g c =
    rw c.out_of_memory.ensures
    (rest-lacks c.args.context.now.who 0 (g.H.Reach.known c.args.reach.now) (g.H.Reach.known c.served_part.new.reach) _
    (step_query (g.H.Reach.known c.args.reach.now).log (query_of c.args.kept.now)) c.requires.speaks c.requires.shut
    (found-went (g.H.Reach.known c.args.reach.now) (g.H.Reach.known c.served_part.new.reach) c.in-Err.ensures.went))

pub returns-in-Err-clause-agrees : goal.returns-in-Err-clause-agrees
returns-in-Err-clause-agrees g c =
    agrees-went c.args.context.now.who c.args.kept.now (g.H.Reach.known c.args.reach.now) (g.H.Reach.known c.served_part.new.reach) c.requires.speaks
    c.in-Err.ensures.went c.requires.agrees

pub returns-then-kept-clause-ticks : goal.returns-then-kept-clause-ticks
returns-then-kept-clause-ticks g c = λ state here. Unread (omega arith)

pub returns-in-Ok-clause-ticks : goal.returns-in-Ok-clause-ticks
returns-in-Ok-clause-ticks g c =
    next-taken c.args.context.now.who c.args.kept.now c.take.result.reply c.args.steps.now c.served_part.new.steps (g.H.Reach.known c.args.reach.now).log
    (g.H.Reach.known c.served_part.new.reach).log c.if-kept.false c.take.result.served c.in-Ok.served.mark c.take.ensures.reply
    (ap (λ (mark : Served). mark.extent) c.in-Ok.ensures.mark) c.in-Ok.ensures.rows c.in-Ok.ensures.ticks

pub returns-in-Err-clause-ticks : goal.returns-in-Err-clause-ticks
returns-in-Err-clause-ticks g c =
    next-lacked c.args.context.now.who c.args.kept.now c.out_of_memory.result c.args.steps.now c.served_part.new.steps
    (g.H.Reach.known c.args.reach.now).log (g.H.Reach.known c.served_part.new.reach).log c.if-kept.false (0, c.out_of_memory.ensures)
    c.in-Err.ensures.ticks
