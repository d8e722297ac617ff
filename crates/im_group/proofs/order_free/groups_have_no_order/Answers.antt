use Rattle.im_group.proofs.ForCallers.{partial-swapped, partial-interleaved}
use Rattle.im_group.proofs.order_free.groups_have_no_order.Goals as goal

pub returns-clause-swapped : goal.returns-clause-swapped
returns-clause-swapped c bound front back grouped = partial-swapped bound front back grouped

pub returns-clause-interleaved : goal.returns-clause-interleaved
returns-clause-interleaved c bound front back whole grouped both = partial-interleaved bound front back whole grouped both
