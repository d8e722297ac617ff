use Rattle.std.proofs.Common.{◌≡◌, ◌++◌, [], ◌∷◌, Option, subst}
use Rattle.im_session.specs.declared.cursor.Cursor.{Cursor}
use Rattle.im_session.specs.inner.Cursors.{opening_outcome}
use Rattle.im_session.specs.inner.Rests.{IsRest}
use Rattle.im_session.proofs.RestLemmas.{rest-lacks_here}
use Rattle.im_session.proofs.SessionLemmas.{run-kept, run-open}
use Rattle.im_session.proofs.playing.open.Goals as goal
use Rattle.im_statements.specs.Cursors.{open_query}
use Rattle.im_statements.specs.Statements.{seen_columns}

pub open_query-reply-requires-clause-shut : goal.open_query-reply-requires-clause-shut
open_query-reply-requires-clause-shut g c =
    c.requires.agrees.cursors.closed

pub returns-then-is_err : goal.returns-then-is_err
returns-then-is_err g c =
    let columns = seen_columns (g.H.Reach.known c.args.reach.now).log c.args.bound.table in
    rw (c.out_of_memory.ensures, c.reserve.ensures.items)
    (run-kept c.args.context.now.who c.args.kept.now.items (g.H.Reach.known c.args.reach.now)
    c.requires.agrees (g.H.Reach.known c.args.reach.now) _ (open_query c.args.context.now.who c.args.number columns c.args.bound)
    (rest-lacks_here c.args.context.now.who 0 (g.H.Reach.known c.args.reach.now) (open_query c.args.context.now.who c.args.number columns c.args.bound)
    c.requires.speaks
    c.requires.agrees.cursors.closed))

pub returns-in-Some : goal.returns-in-Some
returns-in-Some g c =
    let columns = seen_columns (g.H.Reach.known c.args.reach.now).log c.args.bound.table in
    let plan = open_query c.args.context.now.who c.args.number columns c.args.bound in
    let reply = c.open_query-reply.result.reply in
    let items : c.push.new.self.items ≡ c.args.kept.now.items ++ c.in-Some.opened ∷ [] =
    rw (c.unwrap.ensures, c.reserve.ensures.items) at c.push.ensures.items in
    rw items
    (run-open c.args.context.now.who c.args.kept.now.items (g.H.Reach.known c.args.reach.now)
    c.requires.agrees (g.H.Reach.known c.open_query-reply.new.reach) reply c.args.number columns c.args.bound c.in-Some.opened
    (subst (λ (opened : Option Cursor). IsRest c.args.context.now.who 0 (g.H.Reach.known c.args.reach.now) plan (opening_outcome reply opened)
    (g.H.Reach.known c.open_query-reply.new.reach)) c.in-Some.is c.open_query-reply.ensures.rest)
    (c.open_query-reply.ensures.fresh c.in-Some.opened c.in-Some.is)
    (c.open_query-reply.ensures.agrees c.in-Some.opened c.in-Some.is))

pub returns-in-None : goal.returns-in-None
returns-in-None g c =
    let columns = seen_columns (g.H.Reach.known c.args.reach.now).log c.args.bound.table in
    let plan = open_query c.args.context.now.who c.args.number columns c.args.bound in
    let reply = c.open_query-reply.result.reply in
    rw c.reserve.ensures.items
    (run-kept c.args.context.now.who c.args.kept.now.items (g.H.Reach.known c.args.reach.now)
    c.requires.agrees (g.H.Reach.known c.open_query-reply.new.reach) reply (open_query c.args.context.now.who c.args.number columns c.args.bound)
    (subst (λ (opened : Option Cursor). IsRest c.args.context.now.who 0 (g.H.Reach.known c.args.reach.now) plan (opening_outcome reply opened)
    (g.H.Reach.known c.open_query-reply.new.reach)) c.in-None.is c.open_query-reply.ensures.rest))
