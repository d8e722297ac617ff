use Rattle.std.proofs.Common.{List, ap, false, subst, sym, ◌∙◌}
use Rattle.std.specs.Prelude.{⊤}
use Rattle.im_reach.specs.Sides.{speaks}
use Rattle.im_session.specs.declared.cursor.Cursor.{Cursor}
use Rattle.im_session.specs.Sessions.{Agrees, Kept}
use Rattle.im_session.proofs.EndLemmas.{either-way, on-err, on-ok, session-left, session-left-agrees, session-may, session-speaks-rolled, session-unleft, session-unleft-agrees, session-unleft-stays, speaks-closing}
use Rattle.im_session.proofs.session.Session.end.Goals as goal

pub roll_back_open-requires-clause-speaks : goal.roll_back_open-requires-clause-speaks
roll_back_open-requires-clause-speaks g c =
    speaks-closing c.self.inside.who c.self.inside.cursors.items (g.H.Reach.known c.args.reach.now) _ (g.H.Reach.known c.close_each.new.reach)
    (ap (λ (k : Kept). speaks (g.H.Reach.known c.args.reach.now).side k.who) c.self.view_is ∙ c.requires.speaks) c.close_each.ensures.closing

pub leave-requires-clause-speaks : goal.leave-requires-clause-speaks
leave-requires-clause-speaks g c =
    session-speaks-rolled c.args.self.now c.self.inside.who c.self.inside.cursors.items c.self.inside.in_transaction c.self.view_is
    (g.H.Reach.known c.args.reach.now) (g.H.Reach.known c.close_each.new.reach) (g.H.Reach.known c.roll_back_open.new.reach) c.requires.speaks
    c.requires.agrees c.close_each.ensures.closing c.roll_back_open.ensures

pub leave-requires-clause-may : goal.leave-requires-clause-may
leave-requires-clause-may g c =
    session-may c.args.self.now c.self.inside.who c.self.inside.cursors.items c.self.inside.in_transaction c.self.view_is
    (g.H.Reach.known c.args.reach.now) (g.H.Reach.known c.close_each.new.reach) (g.H.Reach.known c.roll_back_open.new.reach) c.requires.speaks
    c.requires.agrees c.close_each.ensures.closing c.roll_back_open.ensures c.requires.stays

pub returns-clause-ok : goal.returns-clause-ok
returns-clause-ok g c = on-ok c.leave.result c.leave.ensures.ok
    (session-left c.args.self.now c.self.inside.who c.self.inside.cursors.items c.self.inside.in_transaction c.self.view_is
    (g.H.Reach.known c.args.reach.now) (g.H.Reach.known c.close_each.new.reach) (g.H.Reach.known c.roll_back_open.new.reach) c.requires.speaks
    c.requires.agrees c.close_each.ensures.closing c.roll_back_open.ensures (g.H.Reach.known c.leave.new.reach) (λ at. ⊤))

pub returns-clause-err : goal.returns-clause-err
returns-clause-err g c = on-err c.leave.result c.leave.ensures.err
    (session-unleft c.args.self.now c.self.inside.who c.self.inside.cursors.items c.self.inside.in_transaction c.self.view_is
    (g.H.Reach.known c.args.reach.now) (g.H.Reach.known c.close_each.new.reach) (g.H.Reach.known c.roll_back_open.new.reach) c.requires.speaks
    c.requires.agrees c.close_each.ensures.closing c.roll_back_open.ensures (g.H.Reach.known c.leave.new.reach) (λ at. ⊤))

pub returns-clause-stays : goal.returns-clause-stays
returns-clause-stays g c = on-err c.leave.result c.leave.ensures.err
    (λ found. session-unleft-stays c.args.self.now c.self.inside.who c.self.inside.cursors.items c.self.inside.in_transaction c.self.view_is
    (g.H.Reach.known c.args.reach.now) (g.H.Reach.known c.close_each.new.reach) (g.H.Reach.known c.roll_back_open.new.reach) c.requires.speaks
    c.requires.agrees c.close_each.ensures.closing c.roll_back_open.ensures (g.H.Reach.known c.leave.new.reach) (λ at. ⊤) found c.requires.stays)

pub returns-clause-agrees : goal.returns-clause-agrees
returns-clause-agrees g c =
    subst (λ (cursors : List Cursor). Agrees (record { who = c.self.inside.who; cursors = cursors; in_transaction = false })
    (g.H.Reach.known c.leave.new.reach)) (sym c.close_each.ensures.none)
    (either-way c.leave.result c.leave.ensures.ok c.leave.ensures.err
    (session-left-agrees c.args.self.now c.self.inside.who c.self.inside.cursors.items c.self.inside.in_transaction c.self.view_is
    (g.H.Reach.known c.args.reach.now) (g.H.Reach.known c.close_each.new.reach) (g.H.Reach.known c.roll_back_open.new.reach) c.requires.speaks
    c.requires.agrees c.close_each.ensures.closing c.roll_back_open.ensures (g.H.Reach.known c.leave.new.reach) (λ at. ⊤))
    (session-unleft-agrees c.args.self.now c.self.inside.who c.self.inside.cursors.items c.self.inside.in_transaction c.self.view_is
    (g.H.Reach.known c.args.reach.now) (g.H.Reach.known c.close_each.new.reach) (g.H.Reach.known c.roll_back_open.new.reach) c.requires.speaks
    c.requires.agrees c.close_each.ensures.closing c.roll_back_open.ensures (g.H.Reach.known c.leave.new.reach) (λ at. ⊤)))
