use Rattle.std.proofs.Common.{List, [], subst}
use Rattle.im_worker.specs.Background.{Ready}
use Rattle.im_worker.specs.inner.Standing.{Stands}
use Rattle.im_worker.proofs.RunLemmas.{cancelled-told}
use Rattle.im_worker.proofs.statements.cancel.Goals as goal

pub cancel_build-id-requires-clause-own : goal.cancel_build-id-requires-clause-own
cancel_build-id-requires-clause-own g c =
    (subst (λ (list : List Ready). Stands c.args.who list [] (g.H.Reach.known c.args.reach.now).log) c.in-Some.ensures.items c.requires.stands).own.0

pub returns-in-Some : goal.returns-in-Some
returns-in-Some g c = record {
  run = cancelled-told c.args.who c.args.held.now.items c.in-Some.build c.pop_front.new.self.items (g.H.Reach.known c.args.reach.now)
      (g.H.Reach.known c.cancel_build-id.new.reach) c.cancel_build-id.result c.plain.result c.in-Some.ensures.items c.cancel_build-id.ensures.id
      c.plain.ensures c.requires.speaks c.cancel_build-id.ensures.lawful c.requires.stands c.cancel_build-id.ensures.added;
}
