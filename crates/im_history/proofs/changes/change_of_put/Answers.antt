use Rattle.std.proofs.Common.{arith}
use Rattle.im_history.proofs.PutLaws.{length-put_from, at-put_from}
use Rattle.im_history.proofs.changes.change_of_put.Goals as goal

pub row-requires : goal.row-requires
row-requires c =
    let within = c.requires.within in
    let long = length-put_from c.args.table c.args.first c.args.rows.now in
    omega (arith, within, long)

pub overflow_add-result : goal.overflow_add-result
overflow_add-result c =
    let within = c.requires.within in
    let numbers = c.requires.numbers in
    let long = length-put_from c.args.table c.args.first c.args.rows.now in
    omega (arith, within, numbers, long)

pub returns : goal.returns
returns c = at-put_from c.args.table c.args.first c.args.rows.now c.args.place c.in_ok-row.row c.in_ok-row.ensures
