use Rattle.std.proofs.Common.{false, refl, ap, subst}
use Rattle.im_history.specs.declared.entry.What.TheVariants.{Cancel}
use Rattle.im_reach.specs.Sides.{AreOthers, Known, Offered}
use Rattle.im_worker.proofs.BeginLemmas.{begun-counted, dropped-of, idle-of, lacked-of, ready-of, stands-read}
use Rattle.im_worker.proofs.CountLemmas.{on-added, on-same}
use Rattle.im_worker.proofs.StandingLaws.{own-last}
use Rattle.im_worker.proofs.building.begin_next.Goals as goal

pub returns-in-Some-clause-begun : goal.returns-in-Some-clause-begun
returns-in-Some-clause-begun g c =
    let old = g.H.Reach.known c.args.reach.now in
    let mid = g.H.Reach.known c.build.new.self in
    let offered = subst (Offered old mid c.args.who) c.in-Task.is c.in-Ok.ensures.ok in
    ready-of c.args.who c.args.held.now.items old mid (g.H.Reach.known c.unit_of.new.reach) (record { task = c.in-Task.task; content = c.in-Some.unit.value })
    offered.0 c.requires.speaks c.in-Ok.ensures.lawful c.in-Some.ensures.lawful c.requires.stands offered.1 c.in-Some.ensures.went c.in-Some.ensures.kept
    (c.in-Some.ensures.unit c.in-Some.unit refl)

pub returns-in-Some-clause-ticks : goal.returns-in-Some-clause-ticks
returns-in-Some-clause-ticks g c =
    let old = g.H.Reach.known c.args.reach.now in
    let mid = g.H.Reach.known c.build.new.self in
    let new = g.H.Reach.known c.unit_of.new.reach in
    let offered = subst (Offered old mid c.args.who) c.in-Task.is c.in-Ok.ensures.ok in
    begun-counted c.args.who c.args.steps.now c.unit_of.new.steps old mid new new c.in-Task.task offered.0 c.in-Ok.ensures.lawful offered.1
    c.in-Some.ensures.went (on-same new.log) c.in-Some.ensures.steps

pub returns-in-None-clause-begun : goal.returns-in-None-clause-begun
returns-in-None-clause-begun g c =
    let old = g.H.Reach.known c.args.reach.now in
    let mid = g.H.Reach.known c.build.new.self in
    let offered = subst (Offered old mid c.args.who) c.in-Task.is c.in-Ok.ensures.ok in
    dropped-of c.args.who c.args.held.now.items old mid (g.H.Reach.known c.unit_of.new.reach) (g.H.Reach.known c.cancel.new.self) c.in-Task.task offered.0
    _ c.requires.speaks c.in-Ok.ensures.lawful c.in-None.ensures.lawful c.cancel.ensures.lawful c.requires.stands offered.1 c.in-None.ensures.went
    c.in-None.ensures.kept c.cancel.ensures.added

pub returns-in_default-clause-begun : goal.returns-in_default-clause-begun
returns-in_default-clause-begun g c =
    lacked-of c.args.who c.args.held.now.items (g.H.Reach.known c.args.reach.now) (g.H.Reach.known c.build.new.self) _ c.requires.speaks
    c.in_default.ensures.lawful c.requires.stands c.in_default.ensures.err

pub returns-in-Idle-clause-begun : goal.returns-in-Idle-clause-begun
returns-in-Idle-clause-begun g c =
    let old = g.H.Reach.known c.args.reach.now in
    let new = g.H.Reach.known c.build.new.self in
    let missed = subst (Offered old new c.args.who) c.in-Idle.is c.in-Ok.ensures.ok in
    idle-of c.args.who c.args.held.now.items c.in-Idle.place c.in-Idle.left old new c.requires.speaks c.in-Ok.ensures.lawful c.requires.stands missed

pub cancel-requires-clause-own : goal.cancel-requires-clause-own
cancel-requires-clause-own g c =
    let old = g.H.Reach.known c.args.reach.now in
    let mid = g.H.Reach.known c.build.new.self in
    let read = g.H.Reach.known c.unit_of.new.reach in
    let offered = subst (Offered old mid c.args.who) c.in-Task.is c.in-Ok.ensures.ok in
    own-last read.limits read.log c.args.who c.args.held.now.items c.in-Task.task c.in-None.ensures.lawful.legal
    (stands-read c.args.who c.args.held.now.items old mid read c.in-Task.task offered.0 c.requires.speaks c.in-Ok.ensures.lawful c.in-None.ensures.lawful
    c.requires.stands offered.1 c.in-None.ensures.went)

pub returns-in-None-clause-ticks : goal.returns-in-None-clause-ticks
returns-in-None-clause-ticks g c =
    let old = g.H.Reach.known c.args.reach.now in
    let mid = g.H.Reach.known c.build.new.self in
    let read = g.H.Reach.known c.unit_of.new.reach in
    let new = g.H.Reach.known c.cancel.new.self in
    let offered = subst (Offered old mid c.args.who) c.in-Task.is c.in-Ok.ensures.ok in
    let cancelled = c.cancel.ensures.added in
    begun-counted c.args.who c.args.steps.now c.unit_of.new.steps old mid read new c.in-Task.task offered.0 c.in-Ok.ensures.lawful offered.1
    c.in-None.ensures.went
    (on-added (AreOthers read.side) read.log cancelled.at new.log c.args.who (Cancel c.in-Task.task.id false) cancelled.after
    (ap (λ (s : Known). s.log) cancelled.now)) c.in-None.ensures.steps
