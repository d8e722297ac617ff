use Rattle.std.proofs.Common.{map, take}
use Rattle.im_codepred.specs.inner.Tallying.{totals_of, ShowEach}
use Rattle.im_codepred.proofs.found_by_key.tallies_found.Given as goal

abbrev pub invariant-loop-found : goal.invariant-loop-found
invariant-loop-found l = ShowEach (take l.found-index (map (totals_of l.dict) l.founds)) l.tallies.items
