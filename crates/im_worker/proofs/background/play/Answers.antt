use Rattle.im_worker.proofs.RunLemmas.{evict-commanded, run-counted}
use Rattle.im_worker.proofs.background.play.Goals as goal

pub returns-in-Switch-clause-ticks : goal.returns-in-Switch-clause-ticks
returns-in-Switch-clause-ticks g c =
    run-counted c.args.who c.args.steps.now _ _ (g.H.Reach.known c.args.reach.now) _ _ (g.H.Reach.known c.switch.new.reach) c.switch.ensures.run

pub returns-in-Cancel-clause-ticks : goal.returns-in-Cancel-clause-ticks
returns-in-Cancel-clause-ticks g c =
    run-counted c.args.who c.args.steps.now _ _ (g.H.Reach.known c.args.reach.now) _ _ (g.H.Reach.known c.cancel.new.reach) c.cancel.ensures.run

pub returns-in-Trickle-clause-ticks : goal.returns-in-Trickle-clause-ticks
returns-in-Trickle-clause-ticks g c =
    run-counted c.args.who c.args.steps.now _ _ (g.H.Reach.known c.args.reach.now) _ _ (g.H.Reach.known c.trickle.new.reach) c.trickle.ensures.run

pub returns-in-Purge-clause-ticks : goal.returns-in-Purge-clause-ticks
returns-in-Purge-clause-ticks g c =
    run-counted c.args.who c.args.steps.now _ _ (g.H.Reach.known c.args.reach.now) _ _ (g.H.Reach.known c.purge.new.reach) c.purge.ensures.run

pub returns-in-Evict-clause-ticks : goal.returns-in-Evict-clause-ticks
returns-in-Evict-clause-ticks g c =
    run-counted c.args.who c.args.steps.now _ _ (g.H.Reach.known c.args.reach.now) _ _ (g.H.Reach.known c.evict.new.reach) c.evict.ensures.run

pub returns-in-Evict-clause-command : goal.returns-in-Evict-clause-command
returns-in-Evict-clause-command g c =
    evict-commanded c.args.who c.in-Evict.extent c.in-Evict.name c.args.statement.now c.args.held.now.items (g.H.Reach.known c.args.reach.now)
    c.evict.result (g.H.Reach.known c.evict.new.reach) c.in-Evict.is c.evict.ensures.run
