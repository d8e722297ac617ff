use Rattle.std.proofs.Common.{◌≡◌, ap, sym, ◌∙◌}
use Rattle.std.specs.Arc.{arc_value}
use Rattle.std.specs.Option.{option_map}
use Rattle.im_worker.proofs.FitLemmas.{taken-found}
use Rattle.im_worker.proofs.UnitLemmas.{beside-found, content-found, own-just}
use Rattle.im_worker.proofs.building.unit_of.Goals as goal

pub read_task-requires-clause-own : goal.read_task-requires-clause-own
read_task-requires-clause-own g c = own-just c.args.who c.args.task.now (g.H.Reach.known c.args.reach.now) c.requires.just

pub unit_from-requires : goal.unit_from-requires
unit_from-requires g c =
    let found = c.in-Ok.ensures.ok in
    record {
      beside =
          beside-found c.args.who c.args.task.now (g.H.Reach.known c.args.reach.now) (g.H.Reach.known c.read_task.new.self) _
          (option_map arc_value c.in-Ok.pin.unit) c.in-Ok.pin.fetched c.requires.speaks c.requires.just c.in-Ok.ensures.lawful found found.fact.1 found.fact.2;
      taken =
          taken-found c.args.who c.args.task.now (g.H.Reach.known c.args.reach.now) (g.H.Reach.known c.read_task.new.self) _
          c.in-Ok.pin.fetched c.requires.speaks c.requires.just c.in-Ok.ensures.lawful found found.fact.2;
    }

pub returns-in-Ok-unit_from-clause-unit : goal.returns-in-Ok-unit_from-clause-unit
returns-in-Ok-unit_from-clause-unit g c = λ x is.
    let found = c.in-Ok.ensures.ok in
    let content =
    content-found c.args.who c.args.task.now (g.H.Reach.known c.args.reach.now) (g.H.Reach.known c.read_task.new.self) _
    (option_map arc_value c.in-Ok.pin.unit) c.in-Ok.pin.fetched
    c.in-Ok-unit_from.unit.value c.requires.speaks c.requires.just c.in-Ok.ensures.lawful found found.fact.1 found.fact.2 c.in-Ok-unit_from.ensures in
    let same : c.in-Ok-unit_from.unit ≡ x = cc in
    ap (λ unit. unit.value) (sym same) ∙ content
