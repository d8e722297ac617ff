use Rattle.im_replies.specs.declared.body.Body.TheVariants as body
use Rattle.im_statements.specs.Background.{purge, said}
use Rattle.im_statements.specs.Turns.{memory_reply}
use Rattle.im_worker.specs.Background.{tasks_of}
use Rattle.im_worker.proofs.RunLemmas.{purged, run-lacks, run-told}
use Rattle.im_worker.proofs.statements.purge.Goals as goal

pub returns-in-Ok : goal.returns-in-Ok
returns-in-Ok g c =
    let builds = c.args.held.now.items in
    let old = g.H.Reach.known c.args.reach.now in
    let new = g.H.Reach.known c.purge.new.self in
    record {
      run = run-told c.args.who (purge c.args.who (tasks_of builds)) builds old (said (body.Purged c.in-Ok.purged.horizon c.in-Ok.purged.kept)) c.plain.result
          builds new c.plain.ensures
          (purged c.args.who c.in-Ok.purged builds old new c.requires.speaks c.in-Ok.ensures.lawful c.requires.stands c.in-Ok.ensures.ok);
    }

pub returns-in-Err : goal.returns-in-Err
returns-in-Err g c =
    let builds = c.args.held.now.items in
    let old = g.H.Reach.known c.args.reach.now in
    let new = g.H.Reach.known c.purge.new.self in
    let plan = purge c.args.who (tasks_of builds) in
    record {
      run = run-told c.args.who plan builds old (memory_reply 0) c.out_of_memory.result builds new c.out_of_memory.ensures
          (run-lacks c.args.who builds old new _ plan c.requires.speaks c.in-Err.ensures.lawful c.requires.stands c.in-Err.ensures.err);
    }
