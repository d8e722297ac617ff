use Rattle.std.proofs.Common.{ap, refl}
use Rattle.im_history.specs.declared.entry.What.TheVariants.{Shut}
use Rattle.im_history.specs.declared.look.Look.{Look}
use Rattle.im_replies.specs.declared.reply.Reply.{Reply}
use Rattle.im_plan.specs.Plan.{End}
use Rattle.im_session.specs.Cursors.{query_of}
use Rattle.im_session.specs.Reads.{Left}
use Rattle.im_session.proofs.CountLemmas.{left-lacked, left-marked}
use Rattle.im_session.proofs.ReadsLemmas.{counted-within, longer-added, longer-same}
use Rattle.im_session.proofs.CursorLemmas.{agrees-went}
use Rattle.im_session.proofs.RestLemmas.{decide_by-done, rest-lacks_here}
use Rattle.im_session.proofs.ScanLemmas.{open-went, own-went, speaks-went}
use Rattle.im_session.proofs.cursor.fetch.Goals as goal
use Rattle.im_statements.specs.Cursors.{close_with, fetch_reply}
use Rattle.im_statements.specs.Outcomes.{Closes, Replied, said}
use Rattle.im_statements.specs.Turns.{memory_reply}

pub shut-requires-clause-speaks : goal.shut-requires-clause-speaks
shut-requires-clause-speaks g c =
    speaks-went c.args.context.now.who (g.H.Reach.known c.args.reach.now) (g.H.Reach.known c.answer_scan.new.reach) c.in-Ok.ensures.went
    c.requires.speaks

pub shut-requires-clause-cursor : goal.shut-requires-clause-cursor
shut-requires-clause-cursor g c =
    open-went c.args.context.now.who c.args.kept.now.number (g.H.Reach.known c.args.reach.now) (g.H.Reach.known c.answer_scan.new.reach) c.requires.speaks
    c.in-Ok.ensures.went c.requires.agrees.scan.is_open

pub returns-in-Ok-clause-rest : goal.returns-in-Ok-clause-rest
returns-in-Ok-clause-rest g c =
    let at = (g.H.Reach.known c.args.reach.now).log in
    let kept = query_of c.args.kept.now in
    rw (c.reply.ensures, c.in-Ok.ensures.records, ap (λ (l : Look). l.place) c.requires.look)
    ((c.in-Ok.ensures.marks 0 (λ marks. close_with c.args.kept.now.number (λ here. fetch_reply at kept marks))).rest _
    (g.H.Reach.known c.shut.new.self)
    (decide_by-done c.args.context.now.who 0 (g.H.Reach.known c.answer_scan.new.reach) (g.H.Reach.known c.shut.new.self) (λ here. Shut c.args.kept.now.number) _
    (λ here. End (Replied (fetch_reply at kept c.in-Ok.answered.marks) (Closes c.args.kept.now.number))) _ c.shut.ensures.added
    (λ at fact. refl)))

pub returns-in-Err-clause-rest : goal.returns-in-Err-clause-rest
returns-in-Err-clause-rest g c =
    let at = (g.H.Reach.known c.args.reach.now).log in
    let stops = c.in-Err.ensures.err 0 (λ marks.
    close_with c.args.kept.now.number (λ here. fetch_reply at (query_of c.args.kept.now) marks)) in
    rw c.out_of_memory.ensures
    (stops.comes.rest (said (memory_reply 0)) (g.H.Reach.known c.answer_scan.new.reach)
    (rest-lacks_here c.args.context.now.who 0 (g.H.Reach.known c.answer_scan.new.reach) stops.later
    (speaks-went c.args.context.now.who (g.H.Reach.known c.args.reach.now) (g.H.Reach.known c.answer_scan.new.reach) c.in-Err.ensures.went c.requires.speaks)
    (own-went c.args.context.now.who (g.H.Reach.known c.args.reach.now) (g.H.Reach.known c.answer_scan.new.reach) c.requires.speaks c.in-Err.ensures.went
    c.requires.shut)))

pub returns-in-Err-clause-agrees : goal.returns-in-Err-clause-agrees
returns-in-Err-clause-agrees g c = λ still.
    agrees-went c.args.context.now.who c.args.kept.now (g.H.Reach.known c.args.reach.now) (g.H.Reach.known c.answer_scan.new.reach) c.requires.speaks
    c.in-Err.ensures.went c.requires.agrees

pub returns-in-Ok-clause-ticks : goal.returns-in-Ok-clause-ticks
returns-in-Ok-clause-ticks g c = λ state here.
    let old = g.H.Reach.known c.args.reach.now in
    let mid = g.H.Reach.known c.answer_scan.new.reach in
    let new = g.H.Reach.known c.shut.new.self in
    counted-within (Left c.args.kept.now.number) state c.args.context.now.who c.reply.result c.args.steps.now c.answer_scan.new.steps old old mid new
    (longer-same old) (longer-added c.args.context.now.who mid new _ _ c.shut.ensures.added)
    (left-marked c.args.context.now.who c.args.kept.now c.reply.result c.args.steps.now c.answer_scan.new.steps old.log mid.log
    c.in-Ok.answered.marks (ap (λ (r : Reply). r.marks) c.reply.ensures) c.in-Ok.ensures.rows state here)

pub returns-in-Err-clause-ticks : goal.returns-in-Err-clause-ticks
returns-in-Err-clause-ticks g c =
    left-lacked c.args.context.now.who c.args.kept.now c.out_of_memory.result c.args.steps.now c.answer_scan.new.steps
    (g.H.Reach.known c.args.reach.now).log (g.H.Reach.known c.answer_scan.new.reach).log (0, c.out_of_memory.ensures) c.answer_scan.ensures.ticks
