use Rattle.std.proofs.Common.{◌∙◌, ap}
use Rattle.im_tables.specs.inner.Words.{flags_of}
use Rattle.im_tables.proofs.FlagLemmas.{flags_of-nil}
use Rattle.im_tables.proofs.flag_line.FlagLine.new.Goals as goal

pub returns : goal.returns
returns c = ap flags_of c.new.ensures.items ∙ flags_of-nil
