use Rattle.std.proofs.Common.{subst, arith}
use Rattle.std.specs.Arc.{arc_value}
use Rattle.std.proofs.lemmas.Result.{IfOk-weaker}
use Rattle.im_codepred.specs.Tallies.{IsTallyOf, chosen}
use Rattle.im_scan.specs.inner.Summed.{wants_ends}
use Rattle.im_scan.proofs.SummedLemmas.{column-long, columns-many, tally-for}
use Rattle.im_scan.proofs.summed.sums_of.Goals as goal

pub column-requires : goal.column-requires
column-requires c =
    let many = columns-many arc_value c.columns.result.now c.args.unit.now c.columns.ensures.values in
    omega (arith, many, c.if-asked-columns.false)

pub tally_of-requires : goal.tally_of-requires
tally_of-requires c =
    column-long c.args.asked.column c.args.unit.now.rows c.column.result.now c.args.spots.now c.column.ensures c.requires

pub returns : goal.returns
returns c =
    IfOk-weaker c.sums_by.result _ _
    (λ found some sums is. some sums is _ (tally-for (wants_ends c.args.asked) _ _ (subst (λ vs. IsTallyOf (chosen c.args.spots.now vs) c.tally_of.result) c.column.ensures c.tally_of.ensures)))
    c.sums_by.ensures
