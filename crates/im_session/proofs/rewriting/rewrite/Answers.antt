use Rattle.std.proofs.Common.{arith}
use Rattle.im_session.specs.Reads.{Unread}
use Rattle.im_session.proofs.TableLemmas.{seen-columns}
use Rattle.im_session.proofs.rewriting.rewrite.Goals as goal

pub rewrite_rows-requires-clause-seen : goal.rewrite_rows-requires-clause-seen
rewrite_rows-requires-clause-seen g c κs within =
    seen-columns (g.H.Reach.known c.args.reach.now).log c.args.context.now.who c.args.table _ c.args.look.now c.requires.look
    c.columns_of-columns.ensures

pub returns-in-ReadOnly-clause-ticks : goal.returns-in-ReadOnly-clause-ticks
returns-in-ReadOnly-clause-ticks g c = λ state. Unread (omega arith)
