use Rattle.im_names.specs.Queries.{query_fault, bound_of}
use Rattle.im_names.proofs.StatementLemmas.{found_ok, found_err}
use Rattle.im_names.proofs.statements.resolve_query.Goals as goal

pub returns-clause-ok : goal.returns-clause-ok
returns-clause-ok c =
    let query = c.args.query.now in
    found_ok c.args.tables.now query.table c.in_ok-number.number c.in_ok-number.table.now (λ table. query_fault table.schema query)
    (λ number table. bound_of number table.schema query) c.bind_query.result c.in_ok-number.ensures.ok c.bind_query.ensures.ok

pub returns-clause-err : goal.returns-clause-err
returns-clause-err c =
    let query = c.args.query.now in
    found_err c.args.tables.now query.table c.in_ok-number.number c.in_ok-number.table.now (λ table. query_fault table.schema query)
    (λ number table. bound_of number table.schema query) c.bind_query.result c.in_ok-number.ensures.ok c.bind_query.ensures.err
