use Rattle.std.proofs.Common.{List, [], subst}
use Rattle.im_worker.specs.Background.{Ready}
use Rattle.im_worker.specs.inner.Standing.{Stands}
use Rattle.im_worker.proofs.RunLemmas.{switched-told}
use Rattle.im_worker.proofs.statements.switch.Goals as goal

pub end_build-ending-requires-clause-own : goal.end_build-ending-requires-clause-own
end_build-ending-requires-clause-own g c =
    (subst (λ (list : List Ready). Stands c.args.who list [] (g.H.Reach.known c.args.reach.now).log) c.in-Some.ensures.items c.requires.stands).own.0

pub end_build-ending-requires-clause-holds : goal.end_build-ending-requires-clause-holds
end_build-ending-requires-clause-holds g c =
    (subst (λ (list : List Ready). Stands c.args.who list [] (g.H.Reach.known c.args.reach.now).log) c.in-Some.ensures.items c.requires.stands).ready.0

pub returns-in-Some : goal.returns-in-Some
returns-in-Some g c = record {
  run = switched-told c.args.who c.args.held.now.items c.in-Some.build c.pop_front.new.self.items (g.H.Reach.known c.args.reach.now)
      (g.H.Reach.known c.end_build-ending.new.reach) c.end_build-ending.result c.plain.result c.in-Some.ensures.items c.plain.ensures c.requires.speaks
      c.end_build-ending.ensures.lawful c.requires.stands c.end_build-ending.ensures.ended;
}
