use Rattle.im_directory.proofs.RestLemmas.{RestsSome-one, count_waiting-falls}
use Rattle.im_directory.proofs.shelves.Shelves.rest_table.Goals as goal

pub loop-extent-smaller : goal.loop-extent-smaller
loop-extent-smaller g c = count_waiting-falls _ _ c.args.table c.in-Some.extent c.in-Some.ensures.first c.rest_one.ensures

pub loop-extent-preserved : goal.loop-extent-preserved
loop-extent-preserved g c = RestsSome-one _ _ _ c.args.table c.in-Some.extent c.loop-extent.invariant c.rest_one.ensures
