use Rattle.std.proofs.Common.{arith, subst, sym}
use Rattle.im_history.specs.Tables.{tables}
use Rattle.im_names.specs.declared.resolved.Resolved.{Resolved}
use Rattle.im_names.specs.declared.resolved.Resolved.TheVariants as resolved
use Rattle.im_names.specs.Fitting.{Serves}
use Rattle.im_session.specs.Reads.{Unread}
use Rattle.im_session.specs.inner.Running.{IsRun}
use Rattle.im_session.specs.Sessions.{state_of}
use Rattle.im_session.proofs.SessionLemmas.{counted-resolved, run-resolved}
use Rattle.im_session.proofs.TableLemmas.{may-put, seen-columns}
use Rattle.im_session.proofs.playing.play.Goals as goal
use Rattle.im_statements.specs.Statements.{resolved_plan}

pub scan-requires-clause-seen : goal.scan-requires-clause-seen
scan-requires-clause-seen g c κs within =
    seen-columns (g.H.Reach.known c.args.reach.now).log c.args.context.now.who c.in-Select.bound.table _ c.args.look.now c.requires.look
    c.columns_of-columns.ensures

pub scan-requires-in-Explain-clause-seen : goal.scan-requires-in-Explain-clause-seen
scan-requires-in-Explain-clause-seen g c κs within =
    seen-columns (g.H.Reach.known c.args.reach.now).log c.args.context.now.who c.in-Explain.bound.table _ c.args.look.now c.requires.look
    c.columns_of-columns-in-Explain.ensures

pub insert-requires-clause-seen : goal.insert-requires-clause-seen
insert-requires-clause-seen g c =
    seen-columns (g.H.Reach.known c.args.reach.now).log c.args.context.now.who c.in-Insert.table _ c.args.look.now c.requires.look
    c.columns_of-columns-in-Insert.ensures

pub open-requires-clause-seen : goal.open-requires-clause-seen
open-requires-clause-seen g c =
    seen-columns (g.H.Reach.known c.args.reach.now).log c.args.context.now.who c.in-OpenFor.bound.table _ c.args.look.now c.requires.look
    c.columns_of-columns-in-OpenFor.ensures

pub insert-requires-clause-may : goal.insert-requires-clause-may
insert-requires-clause-may g c =
    may-put (g.H.Reach.known c.args.reach.now).log c.in-Insert.table _ c.in-Insert.rows
    (seen-columns (g.H.Reach.known c.args.reach.now).log c.args.context.now.who c.in-Insert.table _ c.args.look.now c.requires.look
    c.columns_of-columns-in-Insert.ensures)
    (subst (λ (r : Resolved). Serves (tables (g.H.Reach.known c.args.reach.now).log) r) c.in-Insert.is c.requires.serves)

pub returns-in-Select-clause-run : goal.returns-in-Select-clause-run
returns-in-Select-clause-run g c =
    run-resolved c.args.context.now.who c.args.kept.now.items (g.H.Reach.known c.args.reach.now)
    c.requires.agrees (g.H.Reach.known c.scan.new.reach) c.scan.result c.args.resolved (resolved.Select c.in-Select.bound) c.in-Select.is
    c.scan.ensures.rest

pub returns-in-Explain-clause-run : goal.returns-in-Explain-clause-run
returns-in-Explain-clause-run g c =
    run-resolved c.args.context.now.who c.args.kept.now.items (g.H.Reach.known c.args.reach.now)
    c.requires.agrees (g.H.Reach.known c.scan-in-Explain.new.reach) c.scan-in-Explain.result c.args.resolved
    (resolved.Explain c.in-Explain.bound) c.in-Explain.is
    c.scan-in-Explain.ensures.rest

pub returns-in-Insert-clause-run : goal.returns-in-Insert-clause-run
returns-in-Insert-clause-run g c =
    run-resolved c.args.context.now.who c.args.kept.now.items (g.H.Reach.known c.args.reach.now)
    c.requires.agrees (g.H.Reach.known c.insert.new.reach) c.insert.result c.args.resolved (resolved.Insert c.in-Insert.table c.in-Insert.rows) c.in-Insert.is
    c.insert.ensures

pub returns-in-Update-clause-run : goal.returns-in-Update-clause-run
returns-in-Update-clause-run g c =
    run-resolved c.args.context.now.who c.args.kept.now.items (g.H.Reach.known c.args.reach.now)
    c.requires.agrees (g.H.Reach.known c.rewrite.new.reach) c.rewrite.result c.args.resolved
    (resolved.Update c.in-Update.table c.in-Update.filter c.in-Update.sets) c.in-Update.is c.rewrite.ensures.rest

pub returns-in-Delete-clause-run : goal.returns-in-Delete-clause-run
returns-in-Delete-clause-run g c =
    run-resolved c.args.context.now.who c.args.kept.now.items (g.H.Reach.known c.args.reach.now)
    c.requires.agrees (g.H.Reach.known c.rewrite-in-Delete.new.reach) c.rewrite-in-Delete.result c.args.resolved
    (resolved.Delete c.in-Delete.table c.in-Delete.filter) c.in-Delete.is c.rewrite-in-Delete.ensures.rest

pub returns-in-SetMode-clause-run : goal.returns-in-SetMode-clause-run
returns-in-SetMode-clause-run g c =
    run-resolved c.args.context.now.who c.args.kept.now.items (g.H.Reach.known c.args.reach.now)
    c.requires.agrees (g.H.Reach.known c.set_mode.new.reach) c.set_mode.result c.args.resolved (resolved.SetMode c.in-SetMode.mode) c.in-SetMode.is
    c.set_mode.ensures

pub returns-in-Commit-clause-run : goal.returns-in-Commit-clause-run
returns-in-Commit-clause-run g c =
    run-resolved c.args.context.now.who c.args.kept.now.items (g.H.Reach.known c.args.reach.now)
    c.requires.agrees (g.H.Reach.known c.commit.new.reach) c.commit.result c.args.resolved resolved.Commit c.in-Commit.is c.commit.ensures

pub returns-in-Rollback-clause-run : goal.returns-in-Rollback-clause-run
returns-in-Rollback-clause-run g c =
    run-resolved c.args.context.now.who c.args.kept.now.items (g.H.Reach.known c.args.reach.now)
    c.requires.agrees (g.H.Reach.known c.roll_back.new.reach) c.roll_back.result c.args.resolved resolved.Rollback c.in-Rollback.is c.roll_back.ensures

pub returns-in-OpenFor-clause-run : goal.returns-in-OpenFor-clause-run
returns-in-OpenFor-clause-run g c =
    subst (λ (r : Resolved). IsRun c.args.context.now.who
    (resolved_plan (g.H.Reach.known c.args.reach.now).limits c.args.context.now.who (state_of c.args.kept.now.items) (g.H.Reach.known c.args.reach.now).log r)
    c.args.kept.now.items (g.H.Reach.known c.args.reach.now) c.open.result c.open.new.kept.items (g.H.Reach.known c.open.new.reach))
    (sym c.in-OpenFor.is) c.open.ensures

pub returns-in-Select-clause-ticks : goal.returns-in-Select-clause-ticks
returns-in-Select-clause-ticks g c =
    counted-resolved c.args.resolved (resolved.Select c.in-Select.bound) c.in-Select.is (state_of c.args.kept.now.items) c.args.context.now.who c.scan.result c.args.steps.now
    c.scan.new.steps (g.H.Reach.known c.args.reach.now).log (g.H.Reach.known c.scan.new.reach).log (c.scan.ensures.ticks (state_of c.args.kept.now.items))

pub returns-in-Explain-clause-ticks : goal.returns-in-Explain-clause-ticks
returns-in-Explain-clause-ticks g c =
    counted-resolved c.args.resolved (resolved.Explain c.in-Explain.bound) c.in-Explain.is (state_of c.args.kept.now.items) c.args.context.now.who c.scan-in-Explain.result c.args.steps.now
    c.scan-in-Explain.new.steps (g.H.Reach.known c.args.reach.now).log (g.H.Reach.known c.scan-in-Explain.new.reach).log (c.scan-in-Explain.ensures.ticks (state_of c.args.kept.now.items))

pub returns-in-Update-clause-ticks : goal.returns-in-Update-clause-ticks
returns-in-Update-clause-ticks g c =
    counted-resolved c.args.resolved (resolved.Update c.in-Update.table c.in-Update.filter c.in-Update.sets) c.in-Update.is (state_of c.args.kept.now.items) c.args.context.now.who c.rewrite.result c.args.steps.now
    c.rewrite.new.steps (g.H.Reach.known c.args.reach.now).log (g.H.Reach.known c.rewrite.new.reach).log (c.rewrite.ensures.ticks (state_of c.args.kept.now.items))

pub returns-in-Delete-clause-ticks : goal.returns-in-Delete-clause-ticks
returns-in-Delete-clause-ticks g c =
    counted-resolved c.args.resolved (resolved.Delete c.in-Delete.table c.in-Delete.filter) c.in-Delete.is (state_of c.args.kept.now.items) c.args.context.now.who c.rewrite-in-Delete.result c.args.steps.now
    c.rewrite-in-Delete.new.steps (g.H.Reach.known c.args.reach.now).log (g.H.Reach.known c.rewrite-in-Delete.new.reach).log (c.rewrite-in-Delete.ensures.ticks (state_of c.args.kept.now.items))

pub returns-in-Step-clause-ticks : goal.returns-in-Step-clause-ticks
returns-in-Step-clause-ticks g c =
    counted-resolved c.args.resolved (resolved.Step c.in-Step.cursor) c.in-Step.is (state_of c.args.kept.now.items) c.args.context.now.who c.on_cursor.result c.args.steps.now
    c.on_cursor.new.steps (g.H.Reach.known c.args.reach.now).log (g.H.Reach.known c.on_cursor.new.reach).log c.on_cursor.ensures.ticks

pub returns-in-Fetch-clause-ticks : goal.returns-in-Fetch-clause-ticks
returns-in-Fetch-clause-ticks g c =
    counted-resolved c.args.resolved (resolved.Fetch c.in-Fetch.cursor) c.in-Fetch.is (state_of c.args.kept.now.items) c.args.context.now.who c.on_cursor-in-Fetch.result c.args.steps.now
    c.on_cursor-in-Fetch.new.steps (g.H.Reach.known c.args.reach.now).log (g.H.Reach.known c.on_cursor-in-Fetch.new.reach).log c.on_cursor-in-Fetch.ensures.ticks

pub returns-in-Close-clause-ticks : goal.returns-in-Close-clause-ticks
returns-in-Close-clause-ticks g c =
    counted-resolved c.args.resolved (resolved.Close c.in-Close.cursor) c.in-Close.is (state_of c.args.kept.now.items) c.args.context.now.who c.on_cursor-in-Close.result c.args.steps.now
    c.on_cursor-in-Close.new.steps (g.H.Reach.known c.args.reach.now).log (g.H.Reach.known c.on_cursor-in-Close.new.reach).log c.on_cursor-in-Close.ensures.ticks

pub returns-in-Insert-clause-ticks : goal.returns-in-Insert-clause-ticks
returns-in-Insert-clause-ticks g c = Unread (omega arith)

pub returns-in-SetMode-clause-ticks : goal.returns-in-SetMode-clause-ticks
returns-in-SetMode-clause-ticks g c = Unread (omega arith)

pub returns-in-Commit-clause-ticks : goal.returns-in-Commit-clause-ticks
returns-in-Commit-clause-ticks g c = Unread (omega arith)

pub returns-in-Rollback-clause-ticks : goal.returns-in-Rollback-clause-ticks
returns-in-Rollback-clause-ticks g c = Unread (omega arith)

pub returns-in-OpenFor-clause-ticks : goal.returns-in-OpenFor-clause-ticks
returns-in-OpenFor-clause-ticks g c = Unread (omega arith)

pub returns-in-Run-clause-ticks : goal.returns-in-Run-clause-ticks
returns-in-Run-clause-ticks g c = Unread (omega arith)
