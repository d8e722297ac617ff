use Rattle.std.proofs.Common.{◌∙◌, refl, sym, ap, subst}
use Rattle.std.specs.Arc.{arc_value}
use Rattle.std.specs.Option.{option_map}
use Rattle.check_store.specs.Going.{WentOn}
use Rattle.check_store.proofs.GoingLemmas.{found-same, went-switched}
use Rattle.check_store.proofs.UnderWayLemmas.{none_mapped, under_way-content, under_way-own}
use Rattle.check_store.proofs.builds.finish.Goals as goal
use Rattle.im_core.specs.Tasks.{task_fetched, task_lent}
use Rattle.im_history.specs.Units.{IsOwn, task_content}
use Rattle.im_reach.specs.Sides.{Known}
use Rattle.im_worker.proofs.HoldingLaws.{same_number}

pub read_task-requires-clause-own : goal.read_task-requires-clause-own
read_task-requires-clause-own g c =
    under_way-own c.args.who (same_number c.args.who c.args.who refl) c.args.task (g.H.Reach.known c.args.store.now) c.requires.lawful
    c.requires.under_way

pub switch-requires-clause-own : goal.switch-requires-clause-own
switch-requires-clause-own g c =
    let old = g.H.Reach.known c.args.store.now in
    subst (λ (k : Known). IsOwn k.log c.args.who c.args.task)
    (sym (found-same old (g.H.Reach.known c.read_task.new.self) _ c.requires.sole c.in-Ok.ensures.ok))
    (under_way-own c.args.who (same_number c.args.who c.args.who refl) c.args.task old c.requires.lawful c.requires.under_way)

pub switch-requires-clause-holds : goal.switch-requires-clause-holds
switch-requires-clause-holds g c =
    let old = g.H.Reach.known c.args.store.now in
    let mid = g.H.Reach.known c.read_task.new.self in
    let found = c.in-Ok.ensures.ok in
    let same = found-same old mid _ c.requires.sole found in
    under_way-content c.args.who (same_number c.args.who c.args.who refl) c.args.task old (option_map arc_value c.in-Ok.pin.unit)
    c.in-Ok.pin.fetched c.in-Ok-unit_of.unit.value c.requires.lawful c.requires.under_way
    (found.fact.1 ∙ ap (λ (k : Known). task_lent k.log c.args.task) (sym found.now ∙ same))
    (found.fact.2 ∙ ap (λ (k : Known). task_fetched k.log c.args.task) (sym found.now ∙ same)) (none_mapped arc_value c.in-Ok.pin.unit (sym c.if-is_some.ensures)) c.in-Ok-unit_of.ensures
    ∙ ap (λ (k : Known). task_content k.log c.args.task) (sym same)

pub returns : goal.returns
returns g c = λ used is.
    let old = g.H.Reach.known c.args.store.now in
    let mid = g.H.Reach.known c.read_task.new.self in
    let same = found-same old mid _ c.requires.sole c.in-Ok.ensures.ok in
    subst (λ (k : Known). WentOn c.args.who k (g.H.Reach.known c.switch.new.self)) same
    (went-switched _ mid (g.H.Reach.known c.switch.new.self) c.args.who c.args.task c.switch.result (ap (λ (k : Known). k.side) same ∙ c.requires.sole)
    c.switch.ensures.switched)
