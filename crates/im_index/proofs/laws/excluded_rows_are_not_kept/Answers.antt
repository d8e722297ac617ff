use Rattle.im_index.proofs.ForCallers.{excluded-not-kept}
use Rattle.im_index.proofs.laws.excluded_rows_are_not_kept.Goals as goal

pub returns : goal.returns
returns c = excluded-not-kept
