use Rattle.std.proofs.Common.{sym, ◌∙◌}
use Rattle.im_group.proofs.Growth.{sums_of-nil}
use Rattle.im_group.proofs.sums.Sums.new.Goals as goal

pub returns : goal.returns
returns c = c.none.ensures ∙ sym (sums_of-nil c.args._asked)
