use Rattle.std.proofs.Common.{◌∙◌, ap}
use Rattle.im_replies.specs.declared.body.Body.TheVariants as body
use Rattle.im_replies.specs.declared.fault.Fault.{Fault}
use Rattle.im_replies.specs.declared.aim.Aim.TheVariants as aim
use Rattle.im_replies.specs.Causes.{fault_of}
use Rattle.im_statements.specs.Background.{evict, said}
use Rattle.im_worker.specs.Background.{tasks_of}
use Rattle.im_worker.proofs.RunLemmas.{evicted-not, evicted-run, run-told}
use Rattle.im_worker.proofs.statements.evict_extent.Goals as goal

pub returns-in-Ok : goal.returns-in-Ok
returns-in-Ok g c =
    let builds = c.args.held.now.items in
    let old = g.H.Reach.known c.args.reach.now in
    let new = g.H.Reach.known c.evict.new.self in
    record {
      run = run-told c.args.who (evict c.args.who (tasks_of builds) c.args.table c.args.extent) builds old
          (said (body.Evicted c.args.table c.args.extent c.in-Ok.evicted.used)) c.plain.result builds new c.plain.ensures
          (evicted-run c.args.who c.args.table c.args.extent c.in-Ok.evicted.used
          c.in-Ok.evicted.old.value builds old new c.in-Ok.evicted.place c.requires.speaks
          c.in-Ok.ensures.lawful c.requires.stands c.in-Ok.ensures.ok);
    }

pub returns-in-Err : goal.returns-in-Err
returns-in-Err g c =
    let builds = c.args.held.now.items in
    let old = g.H.Reach.known c.args.reach.now in
    let new = g.H.Reach.known c.evict.new.self in
    record {
      run = run-told c.args.who (evict c.args.who (tasks_of builds) c.args.table c.args.extent) builds old
          (said (body.Error (fault_of (aim.Evicting c.args.table c.args.extent) c.in-Err.refused.why))) c.refusal.result builds new
          (c.refusal.ensures ∙ ap (λ (fault : Fault). said (body.Error fault)) c.of.ensures)
          (evicted-not c.args.who c.args.table c.args.extent builds old new c.in-Err.refused c.requires.speaks c.in-Err.ensures.lawful c.requires.stands
          c.in-Err.ensures.err);
    }
