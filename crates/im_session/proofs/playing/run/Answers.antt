use Rattle.std.proofs.Common.{◌≡◌, ◌∙◌, sym, subst, arith}
use Rattle.im_history.specs.declared.look.Look.{Look}
use Rattle.im_history.specs.Views.{look_at}
use Rattle.im_names.specs.Fitting.{Serves}
use Rattle.im_session.specs.Reads.{IsCounted, Reading, Unread, reading_of}
use Rattle.im_session.specs.Sessions.{state_of}
use Rattle.im_session.proofs.NameLemmas.{defines-resolved, reading-resolved}
use Rattle.im_session.proofs.ReadsLemmas.{counted-within, longer-found, longer-same}
use Rattle.im_session.proofs.SessionLemmas.{kept-found, run-defined, run-lacking, run-looked, run-misnamed}
use Rattle.im_session.proofs.ScanLemmas.{went-log}
use Rattle.im_session.proofs.TableLemmas.{defaults-look}
use Rattle.im_session.proofs.playing.run.Goals as goal

pub returns-then-is_definition-clause-run : goal.returns-then-is_definition-clause-run
returns-then-is_definition-clause-run g c =
    run-defined c.args.context.now.who c.args.kept.now.items (g.H.Reach.known c.args.reach.now)
    c.requires.agrees (g.H.Reach.known c.define.new.reach) c.define.result c.args.statement.now
    (sym c.is_definition.ensures ∙ c.if-is_definition.true) c.define.ensures

pub returns-in_default-clause-run : goal.returns-in_default-clause-run
returns-in_default-clause-run g c =
    rw c.out_of_memory.ensures
    (run-lacking c.args.context.now.who c.args.kept.now.items (g.H.Reach.known c.args.reach.now)
    c.requires.agrees (g.H.Reach.known c.look.new.self) _ c.args.statement.now
    c.requires.speaks c.in_default.ensures.err)

pub play-reply-requires-clause-agrees : goal.play-reply-requires-clause-agrees
play-reply-requires-clause-agrees g c κs within =
    kept-found c.args.context.now.who c.args.kept.now.items
    (g.H.Reach.known c.args.reach.now) (g.H.Reach.known c.look.new.self) _ c.requires.speaks c.requires.agrees
    c.in-Ok.ensures.ok

pub play-reply-requires-clause-serves : goal.play-reply-requires-clause-serves
play-reply-requires-clause-serves g c κs within =
    let who = c.args.context.now.who in
    let looked = g.H.Reach.known c.look.new.self in
    let look_is = went-log (g.H.Reach.known c.args.reach.now) looked (λ at. c.in-Ok.look ≡ look_at at who) c.in-Ok.ensures.ok in
    subst (λ (l : Look). Serves l.tables c.in-Ok-resolve.resolved) look_is
    (c.in-Ok-resolve.ensures.serves (defaults-look looked.limits looked.log who c.in-Ok.look c.in-Ok.ensures.lawful.legal look_is))

pub play-reply-requires-clause-shut : goal.play-reply-requires-clause-shut
play-reply-requires-clause-shut g c κs within =
    (kept-found c.args.context.now.who c.args.kept.now.items
    (g.H.Reach.known c.args.reach.now) (g.H.Reach.known c.look.new.self) _ c.requires.speaks c.requires.agrees
    c.in-Ok.ensures.ok).cursors.closed

pub play-reply-requires-clause-other : goal.play-reply-requires-clause-other
play-reply-requires-clause-other g c κs within =
    defines-resolved c.in-Ok.look.tables c.args.statement.now c.in-Ok-resolve.resolved c.in-Ok-resolve.ensures.ok
    ∙ (sym c.is_definition.ensures ∙ c.if-is_definition.false)

pub returns-in-Ok-resolve-clause-run : goal.returns-in-Ok-resolve-clause-run
returns-in-Ok-resolve-clause-run g c =
    run-looked c.args.context.now.who c.args.kept.now.items c.args.statement.now (g.H.Reach.known c.args.reach.now) (g.H.Reach.known c.look.new.self)
    (g.H.Reach.known c.play-reply.new.reach) _ c.in-Ok.look c.in-Ok-resolve.resolved _ _ (sym c.is_definition.ensures ∙ c.if-is_definition.false)
    c.in-Ok.ensures.ok
    (went-log (g.H.Reach.known c.args.reach.now) (g.H.Reach.known c.look.new.self)
    (λ at. c.in-Ok.look ≡ look_at at c.args.context.now.who) c.in-Ok.ensures.ok)
    c.in-Ok-resolve.ensures.ok c.play-reply.ensures.run

pub returns-in-Err-clause-run : goal.returns-in-Err-clause-run
returns-in-Err-clause-run g c =
    rw c.name_reply.ensures
    (run-misnamed c.args.context.now.who c.args.kept.now.items (g.H.Reach.known c.args.reach.now)
    c.requires.agrees (g.H.Reach.known c.look.new.self) c.args.statement.now c.in-Ok.look c.in-Err.fault
    c.requires.speaks (sym c.is_definition.ensures ∙ c.if-is_definition.false) c.in-Ok.ensures.ok c.in-Err.ensures.err)

pub returns-then-is_definition-clause-ticks : goal.returns-then-is_definition-clause-ticks
returns-then-is_definition-clause-ticks g c = Unread (omega arith)

pub returns-in_default-clause-ticks : goal.returns-in_default-clause-ticks
returns-in_default-clause-ticks g c = Unread (omega arith)

pub returns-in-Err-clause-ticks : goal.returns-in-Err-clause-ticks
returns-in-Err-clause-ticks g c = Unread (omega arith)

pub returns-in-Ok-resolve-clause-ticks : goal.returns-in-Ok-resolve-clause-ticks
returns-in-Ok-resolve-clause-ticks g c =
    let who = c.args.context.now.who in
    let state = state_of c.args.kept.now.items in
    let old = g.H.Reach.known c.args.reach.now in
    let looked = g.H.Reach.known c.look.new.self in
    let new = g.H.Reach.known c.play-reply.new.reach in
    counted-within (reading_of c.args.statement.now) state who c.play-reply.result c.args.steps.now c.play-reply.new.steps old looked new new
    (longer-found old looked _ c.in-Ok.ensures.ok) (longer-same new)
    (subst (λ (reading : Reading). IsCounted reading state who c.play-reply.result c.args.steps.now c.play-reply.new.steps looked.log new.log)
    (reading-resolved c.in-Ok.look.tables c.args.statement.now c.in-Ok-resolve.resolved c.in-Ok-resolve.ensures.ok) c.play-reply.ensures.ticks)
