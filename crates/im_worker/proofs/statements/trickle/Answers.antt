use Rattle.im_replies.specs.declared.body.Body.TheVariants as body
use Rattle.im_statements.specs.Background.{said, trickle}
use Rattle.im_statements.specs.Turns.{memory_reply}
use Rattle.im_worker.specs.Background.{tasks_of}
use Rattle.im_worker.proofs.RunLemmas.{run-lacks, run-told, trickled}
use Rattle.im_worker.proofs.statements.trickle.Goals as goal

pub returns-in-Ok : goal.returns-in-Ok
returns-in-Ok g c =
    let builds = c.args.held.now.items in
    let old = g.H.Reach.known c.args.reach.now in
    let new = g.H.Reach.known c.trickle.new.self in
    record {
      run = run-told c.args.who (trickle c.args.who (tasks_of builds) c.args.count) builds old (said (body.Trickle c.in-Ok.credits)) c.plain.result builds new
          c.plain.ensures
          (trickled c.args.who c.args.count c.in-Ok.credits builds old new c.requires.speaks c.in-Ok.ensures.lawful c.requires.stands c.in-Ok.ensures.ok);
    }

pub returns-in-Err : goal.returns-in-Err
returns-in-Err g c =
    let builds = c.args.held.now.items in
    let old = g.H.Reach.known c.args.reach.now in
    let new = g.H.Reach.known c.trickle.new.self in
    let plan = trickle c.args.who (tasks_of builds) c.args.count in
    record {
      run = run-told c.args.who plan builds old (memory_reply 0) c.out_of_memory.result builds new c.out_of_memory.ensures
          (run-lacks c.args.who builds old new _ plan c.requires.speaks c.in-Err.ensures.lawful c.requires.stands c.in-Err.ensures.err);
    }
