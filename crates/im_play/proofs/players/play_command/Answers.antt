use Rattle.im_play.proofs.SessionsLemmas.{answer-command, between-command, holding-now}
use Rattle.im_play.proofs.players.play_command.Goals as goal

pub command-requires-clause-agrees : goal.command-requires-clause-agrees
command-requires-clause-agrees g c =
    holding-now c.args.players.now.background (g.H.Reach.known c.args.reach.now) c.requires.between.holding (c.lawful.ensures c.requires.between.side)

pub returns-clause-between : goal.returns-clause-between
returns-clause-between g c =
    between-command c.args.players.now.sessions.items c.args.players.now.background c.command.new.self (g.H.Reach.known c.args.reach.now)
    (g.H.Reach.known c.command.new.reach) c.requires.between c.args.statement.now c.command.result
    c.args.steps.now c.command.new.steps c.command.ensures.played c.command.ensures.agrees c.command.ensures.ticks

pub returns-clause-answer : goal.returns-clause-answer
returns-clause-answer g c =
    answer-command c.args.players.now.sessions.items c.args.players.now.background c.command.new.self (g.H.Reach.known c.args.reach.now)
    (g.H.Reach.known c.command.new.reach) c.requires.between c.args.statement.now c.command.result
    c.args.steps.now c.command.new.steps c.command.ensures.played c.command.ensures.agrees c.command.ensures.ticks
