use Rattle.std.proofs.Common.{◌∙◌}
use Rattle.im_values.proofs.ForCallers.{value_ties}
use Rattle.im_codepred.proofs.numbers.is_same.Goals as goal

pub returns : goal.returns
returns c = c.eq.ensures ∙ value_ties c.args.value.now c.args.other.now
