use Rattle.std.proofs.Common.{◌∙◌, ap, sym}
use Rattle.im_replies.specs.declared.body.Body.TheVariants as body
use Rattle.im_replies.specs.declared.fault.Fault.{Fault}
use Rattle.im_replies.specs.Causes.{name_fault}
use Rattle.im_statements.specs.Background.{said}
use Rattle.im_statements.specs.Turns.{memory_reply}
use Rattle.im_worker.specs.Background.{tasks_of}
use Rattle.im_worker.specs.inner.Running.{evict_named}
use Rattle.im_worker.proofs.EvictLemmas.{named-exists, named-extent, named-fault, named-nothing}
use Rattle.im_worker.proofs.RestLemmas.{stands-went, went-found}
use Rattle.im_worker.proofs.RunLemmas.{run-lacks, run-told}
use Rattle.im_worker.proofs.statements.evict.Goals as goal

pub returns-in_default : goal.returns-in_default
returns-in_default g c =
    let builds = c.args.held.now.items in
    let old = g.H.Reach.known c.args.reach.now in
    let new = g.H.Reach.known c.look.new.self in
    let plan = evict_named c.args.who (tasks_of builds) c.args.statement.now in
    record {
      run = run-told c.args.who plan builds old (memory_reply 0) c.out_of_memory.result builds new c.out_of_memory.ensures
          (run-lacks c.args.who builds old new _ plan c.requires.speaks c.in_default.ensures.lawful c.requires.stands c.in_default.ensures.err);
    }

pub evict_extent-requires-clause-stands : goal.evict_extent-requires-clause-stands
evict_extent-requires-clause-stands g c =
    let old = g.H.Reach.known c.args.reach.now in
    let mid = g.H.Reach.known c.look.new.self in
    stands-went old mid c.args.who c.args.held.now.items _ c.requires.speaks c.in-Ok.ensures.lawful (went-found old mid _ c.in-Ok.ensures.ok) c.requires.stands

pub evict_extent-requires-clause-exists : goal.evict_extent-requires-clause-exists
evict_extent-requires-clause-exists g c =
    named-exists c.args.who c.in-Ok.look c.in-Ok-resolved.resolved (c.in-Some.table, c.in-Some.extent) (g.H.Reach.known c.args.reach.now)
    (g.H.Reach.known c.look.new.self) c.in-Ok.ensures.ok c.in-Ok.ensures.lawful c.in-Ok-resolved.ensures.serves (sym c.extent_of-extent.ensures ∙ c.in-Some.is)

pub returns-in-Some : goal.returns-in-Some
returns-in-Some g c = record {
  run = named-extent c.args.who c.args.held.now.items c.in-Ok.look c.args.statement.now c.in-Ok-resolved.resolved (c.in-Some.table, c.in-Some.extent)
      (g.H.Reach.known c.args.reach.now) (g.H.Reach.known c.look.new.self) (g.H.Reach.known c.evict_extent.new.reach) c.evict_extent.result
      c.in-Ok.ensures.ok c.in-Ok-resolved.ensures.ok (sym c.extent_of-extent.ensures ∙ c.in-Some.is) c.evict_extent.ensures.run;
}

pub returns-in-None : goal.returns-in-None
returns-in-None g c =
    let builds = c.args.held.now.items in
    let old = g.H.Reach.known c.args.reach.now in
    let new = g.H.Reach.known c.look.new.self in
    record {
      run = run-told c.args.who (evict_named c.args.who (tasks_of builds) c.args.statement.now) builds old (said body.Nothing) c.plain.result builds new
          c.plain.ensures
          (named-nothing c.args.who builds c.in-Ok.look c.args.statement.now c.in-Ok-resolved.resolved old new c.requires.speaks c.in-Ok.ensures.lawful
          c.requires.stands c.in-Ok.ensures.ok c.in-Ok-resolved.ensures.ok (sym c.extent_of-extent.ensures ∙ c.in-None.is));
    }

pub returns-in-Err : goal.returns-in-Err
returns-in-Err g c =
    let builds = c.args.held.now.items in
    let old = g.H.Reach.known c.args.reach.now in
    let new = g.H.Reach.known c.look.new.self in
    record {
      run = run-told c.args.who (evict_named c.args.who (tasks_of builds) c.args.statement.now) builds old (said (body.Error (name_fault c.in-Err.fault)))
          c.refusal.result builds new (c.refusal.ensures ∙ ap (λ (fault : Fault). said (body.Error fault)) c.from.ensures)
          (named-fault c.args.who builds c.in-Ok.look c.args.statement.now c.in-Err.fault old new c.requires.speaks c.in-Ok.ensures.lawful
          c.requires.stands c.in-Ok.ensures.ok c.in-Err.ensures.err);
    }
