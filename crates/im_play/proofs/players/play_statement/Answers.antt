use Rattle.im_play.proofs.SessionsLemmas.{answer-after, between-after, session-agrees, session-number, session-there}
use Rattle.im_play.proofs.players.play_statement.Goals as goal

pub execute-requires-clause-session : goal.execute-requires-clause-session
execute-requires-clause-session g c κs within =
    session-number c.args.players.now.sessions.items c.args.who c.index_mut.result.now c.args.players.now.background
    (g.H.Reach.known c.args.reach.now) c.requires.between
    (session-there _ _ _ _ _ c.requires.between c.requires.session c.index_mut.ensures.value) c.requires.one c.requires.session

pub execute-requires-clause-agrees : goal.execute-requires-clause-agrees
execute-requires-clause-agrees g c κs within =
    session-agrees c.args.players.now.sessions.items c.args.who c.index_mut.result.now c.args.players.now.background
    (g.H.Reach.known c.args.reach.now) c.requires.between
    (session-there _ _ _ _ _ c.requires.between c.requires.session c.index_mut.ensures.value) c.requires.one

pub returns-clause-between : goal.returns-clause-between
returns-clause-between g c =
    between-after c.args.players.now.sessions.items c.args.who c.index_mut.result.now c.args.players.now.background
    (g.H.Reach.known c.args.reach.now) c.requires.between
    (session-there _ _ _ _ _ c.requires.between c.requires.session c.index_mut.ensures.value) c.requires.one c.args.statement.now
    c.execute.new.self (g.H.Reach.known c.execute.new.reach) c.execute.result c.args.steps.now c.execute.new.steps
    c.execute.ensures.played c.execute.ensures.agrees c.execute.ensures.ticks

pub returns-clause-answer : goal.returns-clause-answer
returns-clause-answer g c =
    answer-after c.args.players.now.sessions.items c.args.who c.index_mut.result.now c.args.players.now.background
    (g.H.Reach.known c.args.reach.now) c.requires.between
    (session-there _ _ _ _ _ c.requires.between c.requires.session c.index_mut.ensures.value) c.requires.one c.args.statement.now
    c.execute.new.self (g.H.Reach.known c.execute.new.reach) c.execute.result c.args.steps.now c.execute.new.steps
    c.execute.ensures.played c.execute.ensures.agrees c.execute.ensures.ticks
