use Rattle.im_column.proofs.NumberLemmas.{rising-whole}
use Rattle.im_column.proofs.column.Column.of_numbers.Goals as goal

pub rising_numbers-requires-clause-rising : goal.rising_numbers-requires-clause-rising
rising_numbers-requires-clause-rising c = rising-whole c.args.numbers.now c.if-numbers_rise.ensures
