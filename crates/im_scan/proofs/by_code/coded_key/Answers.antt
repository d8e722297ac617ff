use Rattle.std.proofs.Common.{◌<◌, arith, subst}
use Rattle.std.specs.Arc.{arc_value}
use Rattle.im_scan.proofs.SummedLemmas.{columns-many, some-inj}
use Rattle.im_scan.proofs.by_code.coded_key.Goals as goal

pub column-requires : goal.column-requires
column-requires c =
    let many = columns-many arc_value c.columns.result.now c.args.unit.now c.columns.ensures.values in
    omega (arith, many, c.if-column-columns.false)

pub returns-clause-within : goal.returns-clause-within
returns-clause-within c x is =
    let many = columns-many arc_value c.columns.result.now c.args.unit.now c.columns.ensures.values in
    subst (λ n. n < c.args.unit.now.columns) (some-inj is) (omega (arith, many, c.if-column-columns.false))
