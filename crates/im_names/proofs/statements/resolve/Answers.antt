use Rattle.im_names.specs.Fitting.{DefaultsFit}
use Rattle.im_names.proofs.ServeLemmas.{result_serves}
use Rattle.im_names.proofs.statements.resolve.Goals as goal

pub returns-clause-serves : goal.returns-clause-serves
returns-clause-serves c =
    rw (← c.tables.ensures.tables)
    (λ (defaults : DefaultsFit c.tables.result.now). result_serves c.tables.result.now c.args.stmt.now c.resolve_among.result defaults c.requires
    c.resolve_among.ensures.ok)
