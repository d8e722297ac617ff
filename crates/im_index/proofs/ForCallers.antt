-- What callers know of excluded conditions.
use Rattle.im_index.specs.Excludes.{ExcludedRowsAreNotKept}
use Rattle.im_index.proofs.ExcludesLemmas as excluded

-- a condition that the bounds of columns exclude keeps none of their rows
pub excluded-not-kept : ExcludedRowsAreNotKept
excluded-not-kept = excluded.excluded-not-kept
