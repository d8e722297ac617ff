use Rattle.std.proofs.Common.{◌∙◌, false, ap, arith, length}
use Rattle.im_replies.specs.declared.aim.Aim.TheVariants as aim
use Rattle.im_replies.specs.Causes.{fault_of}
use Rattle.im_reach.specs.Sides.{Known, speaks}
use Rattle.im_session.specs.inner.Purposes.{behind_scan}
use Rattle.im_session.specs.Reads.{Own, Unread}
use Rattle.im_session.proofs.ReadsLemmas.{counted-within, longer-added}
use Rattle.im_session.proofs.OpeningLemmas.{unopened-rest}
use Rattle.im_session.proofs.PurposeLemmas.{opened-may, scan-used}
use Rattle.im_session.proofs.ScanLemmas.{shut-added}
use Rattle.im_session.proofs.scan.scan.Goals as goal
use Rattle.im_history.specs.declared.cursors.TheConstants.{OWN_CURSOR}
use Rattle.im_history.specs.Views.{view_at}
use Rattle.im_statements.specs.Scans.{rows_seen, serve_from}
use Rattle.im_statements.specs.Statements.{seen_columns}

pub use_scan-reply-requires-clause-speaks : goal.use_scan-reply-requires-clause-speaks
use_scan-reply-requires-clause-speaks g c κs within =
    ap (λ (s : Known). speaks s.side c.args.context.now.who) c.in-Ok.ensures.opened.added.now ∙ c.requires.speaks

pub use_scan-reply-requires-clause-may : goal.use_scan-reply-requires-clause-may
use_scan-reply-requires-clause-may g c κs within =
    opened-may c.args.context.now.who c.args.bound c.in-Ok.cursor (g.H.Reach.known c.args.reach.now) (g.H.Reach.known c.open_cursor.new.reach)
    c.in-Ok.ensures.opened c.args.purpose c.requires.may c.in-Ok.ensures.lawful c.in-Ok.ensures.kept

pub shut-requires-clause-speaks : goal.shut-requires-clause-speaks
shut-requires-clause-speaks g c =
    ap (λ side. speaks side c.args.context.now.who) c.use_scan-reply.ensures.used.side
    ∙ (ap (λ (s : Known). speaks s.side c.args.context.now.who) c.in-Ok.ensures.opened.added.now ∙ c.requires.speaks)

pub shut-requires-clause-cursor : goal.shut-requires-clause-cursor
shut-requires-clause-cursor g c = c.use_scan-reply.ensures.used.open_now

pub returns-in-Ok-clause-rest : goal.returns-in-Ok-clause-rest
returns-in-Ok-clause-rest g c =
    scan-used c.args.context.now.who c.args.bound c.in-Ok.cursor (g.H.Reach.known c.args.reach.now) (g.H.Reach.known c.open_cursor.new.reach)
    c.in-Ok.ensures.opened c.args.purpose (g.H.Reach.known c.use_scan-reply.new.reach) (g.H.Reach.known c.shut.new.self) c.use_scan-reply.result
    c.use_scan-reply.ensures.used
    (shut-added c.args.context.now.who (g.H.Reach.known c.use_scan-reply.new.reach) (g.H.Reach.known c.shut.new.self) _ c.shut.ensures.added)

pub returns-in-Err-clause-rest : goal.returns-in-Err-clause-rest
returns-in-Err-clause-rest g c =
    let who = c.args.context.now.who in
    let bound = c.args.bound in
    let limits = (g.H.Reach.known c.args.reach.now).limits in
    rw c.refused_reply.ensures
    (unopened-rest who 0 OWN_CURSOR bound.table (seen_columns (g.H.Reach.known c.args.reach.now).log c.args.bound.table) bound.asked (g.H.Reach.known c.args.reach.now)
    (g.H.Reach.known c.open_cursor.new.reach) false (fault_of (aim.Opening bound.table OWN_CURSOR))
    (λ at.
    serve_from (view_at at who bound.table bound.asked) bound.filter 0
    (behind_scan limits who bound c.args.purpose (length at) (view_at at who bound.table bound.asked) (rows_seen at (view_at at who bound.table bound.asked))))
    c.in-Err.refused c.requires.speaks c.requires.shut c.in-Err.ensures.err)

pub returns-in-Ok-clause-ticks : goal.returns-in-Ok-clause-ticks
returns-in-Ok-clause-ticks g c = λ state.
    let who = c.args.context.now.who in
    let old = g.H.Reach.known c.args.reach.now in
    let opened = g.H.Reach.known c.open_cursor.new.reach in
    let used = g.H.Reach.known c.use_scan-reply.new.reach in
    let new = g.H.Reach.known c.shut.new.self in
    counted-within Own state who c.use_scan-reply.result c.args.steps.now c.use_scan-reply.new.steps old opened used new
    (longer-added who old opened _ _ c.in-Ok.ensures.opened.added) (longer-added who used new _ _ c.shut.ensures.added)
    (c.use_scan-reply.ensures.ticks state)

pub returns-in-Err-clause-ticks : goal.returns-in-Err-clause-ticks
returns-in-Err-clause-ticks g c = λ state. Unread (omega arith)
