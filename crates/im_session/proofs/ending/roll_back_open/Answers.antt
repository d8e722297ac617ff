use Rattle.std.proofs.Common.{◌∙◌, sym}
use Rattle.im_session.proofs.EndLemmas.{none-rolled, rolled-back}
use Rattle.im_session.proofs.ending.roll_back_open.Goals as goal

pub rollback-requires-clause-transaction : goal.rollback-requires-clause-transaction
rollback-requires-clause-transaction g c = sym c.requires.transaction ∙ c.if-in_transaction.true

pub returns-then-in_transaction : goal.returns-then-in_transaction
returns-then-in_transaction g c =
    rolled-back c.args.who (g.H.Reach.known c.args.reach.now) (g.H.Reach.known c.rollback.new.self) _ c.requires.speaks
    (sym c.requires.transaction ∙ c.if-in_transaction.true) c.rollback.ensures.added

pub returns-else-in_transaction : goal.returns-else-in_transaction
returns-else-in_transaction g c =
    none-rolled c.args.who (g.H.Reach.known c.args.reach.now) (sym c.requires.transaction ∙ c.if-in_transaction.false)
