use Rattle.std.proofs.Common.{arith}
use Rattle.im_codes.proofs.ForCallers.{dictionary-is}
use Rattle.im_codes.specs.Dictionary.{whole}
use Rattle.im_column.proofs.ColumnLemmas.{bounded, own-counted}
use Rattle.im_column.proofs.numbers.coded_numbers.Goals as goal

pub assembled-requires-clause-few : goal.assembled-requires-clause-few
assembled-requires-clause-few c = rw c.in_ok-counted.ensures.stands (omega (arith, c.requires.few))

pub assembled-requires-clause-counted : goal.assembled-requires-clause-counted
assembled-requires-clause-counted c = own-counted (whole c.args.numbers.now) c.in_ok-counted.counted.kept c.in_ok-counted.counted.bytes c.in_ok-counted.ensures

pub assembled-requires-clause-bounds : goal.assembled-requires-clause-bounds
assembled-requires-clause-bounds c =
    let values = whole c.args.numbers.now in
    let dict = c.args.coding.dict in
    rw c.in_ok-counted.ensures.stands
    (bounded values dict c.in_ok-bounds.bounds c.args.summary.nulls (dictionary-is values dict c.requires.dictionary) c.requires.summary.is_nulls
    (rw c.values.ensures.values at c.in_ok-bounds.ensures))

pub returns : goal.returns
returns c = rw c.in_ok-counted.ensures.stands at c.assembled.ensures
