use Rattle.std.proofs.lemmas.Result.{err_from_is_err_and}
use Rattle.im_names.specs.inner.TargetNumbers.{numbers_of}
use Rattle.im_names.proofs.TargetLemmas.{rest_goes, rest_fails, no_more_columns}
use Rattle.im_names.proofs.rows.check_tuple.Goals as goal

pub loop-i-preserved : goal.loop-i-preserved
loop-i-preserved c =
    rest_goes c.args.schema.now (numbers_of c.args.targets.now) c.args.tuple.now c.loop-i.i c.loop-i.invariant c.in-Some.number c.index-tuple-i.result
    c.in-Some.ensures c.loop-i-test.true c.index-tuple-i.is c.in_ok-check_placed.ensures.ok

pub returns-in_default-clause-ok : goal.returns-in_default-clause-ok
returns-in_default-clause-ok c =
    no_more_columns c.args.schema.now (numbers_of c.args.targets.now) c.args.tuple.now c.loop-i.i c.loop-i.invariant c.in_default.ensures

pub returns-in_err-check_placed-clause-err : goal.returns-in_err-check_placed-clause-err
returns-in_err-check_placed-clause-err c =
    let p = err_from_is_err_and c.from_residual.result c.from_residual.ensures.1 in
    let stops = rest_fails c.args.schema.now (numbers_of c.args.targets.now) c.args.tuple.now c.loop-i.i c.loop-i.invariant c.in-Some.number
    c.index-tuple-i.result c.in-Some.ensures c.loop-i-test.true c.index-tuple-i.is in
    rw (p.1, p.2) (stops _ c.in_err-check_placed.ensures.err)
