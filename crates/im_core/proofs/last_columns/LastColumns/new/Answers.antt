use Rattle.std.proofs.Common.{refl}
use Rattle.im_core.proofs.LastColumnLemmas.{AreLast-nil}
use Rattle.im_core.proofs.last_columns.LastColumns.new.Goals as goal

pub returns : goal.returns
returns c = AreLast-nil _ refl
