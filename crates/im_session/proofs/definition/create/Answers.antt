use Rattle.im_session.proofs.DefinitionLemmas.{create-done, create-joins, create-refused, created-may, created-shut}
use Rattle.im_session.proofs.RestLemmas.{rest-lacks_here}
use Rattle.im_session.proofs.definition.create.Goals as goal
use Rattle.im_statements.specs.Definitions.{create_table}

pub returns-in_default : goal.returns-in_default
returns-in_default g c =
    rw c.out_of_memory.ensures
    (rest-lacks_here c.args.context.now.who c.args.entries (g.H.Reach.known c.args.reach.now)
    (create_table c.args.table.name c.args.table.schema c.args.table.shape c.args.table.memory) c.requires.speaks c.requires.shut)

pub returns-in-None : goal.returns-in-None
returns-in-None g c =
    rw (c.created.ensures, c.in-None.is)
    (create-done c.args.context.now.who c.args.entries (g.H.Reach.known c.args.reach.now) _ c.args.table.name c.args.table.schema c.args.table.shape
    c.in-Ok-create.made c.in-Ok-create.ensures.ok)

pub join_memory-requires-clause-shut : goal.join_memory-requires-clause-shut
join_memory-requires-clause-shut g c =
    created-shut c.args.context.now.who c.args.entries (g.H.Reach.known c.args.reach.now) _ c.args.table.name c.args.table.schema c.args.table.shape
    c.in-Ok-create.made c.requires.speaks c.in-Ok-create.ensures.ok c.requires.shut

pub join_memory-requires-clause-may : goal.join_memory-requires-clause-may
join_memory-requires-clause-may g c =
    created-may c.args.context.now.who c.args.entries (g.H.Reach.known c.args.reach.now) _ c.args.table.name c.args.table.schema c.args.table.shape
    c.in-Ok-create.made c.requires.speaks c.in-Ok-create.ensures.ok c.requires.idle

pub returns-in-Some : goal.returns-in-Some
returns-in-Some g c =
    rw c.in-Some.is
    (create-joins c.args.context.now.who c.args.entries (g.H.Reach.known c.args.reach.now) _ c.args.table.name c.args.table.schema c.args.table.shape
    c.in-Ok-create.made c.in-Some.priority _ _ c.in-Ok-create.ensures.ok c.join_memory.ensures)

pub returns-in-Err : goal.returns-in-Err
returns-in-Err g c =
    rw (c.refused_reply.ensures, c.in-Ok.ensures)
    (create-refused c.args.context.now.who c.args.entries (g.H.Reach.known c.args.reach.now) _ c.args.table.name c.args.table.schema c.args.table.shape
    c.args.table.memory c.in-Err.refused c.requires.speaks c.requires.shut c.in-Err.ensures.err)
