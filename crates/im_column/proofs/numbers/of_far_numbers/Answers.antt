use Rattle.im_column.proofs.NumberLemmas.{short-whole}
use Rattle.im_column.proofs.numbers.of_far_numbers.Goals as goal

pub build-requires-clause-short : goal.build-requires-clause-short
build-requires-clause-short c = rw (c.as_slice.ensures.value, c.in_ok-values.ensures) (short-whole c.args.numbers.now)
