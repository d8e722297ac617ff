use Rattle.std.proofs.Common.{◌∙◌, ap}
use Rattle.im_replies.specs.declared.body.Body.TheVariants as body
use Rattle.im_statements.specs.Background.{begin, built_of, said}
use Rattle.im_statements.specs.Turns.{memory_reply}
use Rattle.im_worker.specs.Background.{Ready, tasks_of}
use Rattle.im_worker.proofs.RunLemmas.{begin-dropped, begin-idle, begin-kept, begin-lacks, begin-told, run-lacks_here}
use Rattle.im_worker.proofs.statements.begin.Goals as goal

pub returns-in-Ready : goal.returns-in-Ready
returns-in-Ready g c = record {
  run = begin-told c.args.who c.args.held.now.items c.reserve.new.self.items c.push_back_reserved.new.self.items (g.H.Reach.known c.args.reach.now)
      (g.H.Reach.known c.begin_next.new.reach) c.in-Ready.build c.built_of-built.result
      c.plain.result c.reserve.ensures.items c.push_back_reserved.ensures.items
      (c.built_of-built.ensures ∙ ap (λ (r : Ready). built_of r.task) c.build.view_is) c.plain.ensures c.in-Ready.ensures.lawful c.in-Ready.ensures.begun;
  ticks = c.in-Ready.ensures.ticks;
}

pub returns-then-is_err-clause-run : goal.returns-then-is_err-clause-run
returns-then-is_err-clause-run g c =
    let builds = c.reserve.new.self.items in
    let old = g.H.Reach.known c.args.reach.now in
    begin-kept c.args.who c.args.held.now.items builds old old (memory_reply 0) c.out_of_memory.result c.reserve.ensures.items c.out_of_memory.ensures
    (run-lacks_here c.args.who builds old (begin (tasks_of builds)) (rw c.reserve.ensures.items c.requires.stands))

pub returns-in-Idle-clause-run : goal.returns-in-Idle-clause-run
returns-in-Idle-clause-run g c =
    begin-kept c.args.who c.args.held.now.items c.reserve.new.self.items (g.H.Reach.known c.args.reach.now) (g.H.Reach.known c.begin_next.new.reach)
    (said body.Idle) c.plain-in-Idle.result c.reserve.ensures.items c.plain-in-Idle.ensures
    (begin-idle c.args.who c.reserve.new.self.items (g.H.Reach.known c.args.reach.now) (g.H.Reach.known c.begin_next.new.reach) c.in-Idle.ensures.begun)

pub returns-in-Lacks-clause-run : goal.returns-in-Lacks-clause-run
returns-in-Lacks-clause-run g c =
    begin-kept c.args.who c.args.held.now.items c.reserve.new.self.items (g.H.Reach.known c.args.reach.now) (g.H.Reach.known c.begin_next.new.reach)
    (memory_reply 0) c.out_of_memory-in-Lacks.result c.reserve.ensures.items c.out_of_memory-in-Lacks.ensures
    (begin-lacks c.args.who c.reserve.new.self.items (g.H.Reach.known c.args.reach.now) (g.H.Reach.known c.begin_next.new.reach) c.in-Lacks.ensures.begun)

pub returns-in-Dropped-clause-run : goal.returns-in-Dropped-clause-run
returns-in-Dropped-clause-run g c =
    begin-kept c.args.who c.args.held.now.items c.reserve.new.self.items (g.H.Reach.known c.args.reach.now) (g.H.Reach.known c.begin_next.new.reach)
    (memory_reply 1) c.out_of_memory-in-Dropped.result c.reserve.ensures.items c.out_of_memory-in-Dropped.ensures
    (begin-dropped c.args.who c.reserve.new.self.items (g.H.Reach.known c.args.reach.now) (g.H.Reach.known c.begin_next.new.reach)
    c.in-Dropped.ensures.lawful c.in-Dropped.ensures.begun)
