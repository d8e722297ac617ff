use Rattle.im_column.proofs.RepeatedLemmas.{nulls-counted}
use Rattle.im_column.proofs.repeated.as_zeros.Goals as goal
use Rattle.std.proofs.Common.{arith}

pub returns : goal.returns
returns c = nulls-counted c.args.len c.args.dict c.zeros.result (omega (arith, c.requires.many)) c.requires.dictionary c.zeros.ensures
