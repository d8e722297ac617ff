use Rattle.std.proofs.Common.{refl}
use Rattle.im_group.specs.Partials.{partial}
use Rattle.im_scan.specs.Pinned.{seen_in, seen_to}
use Rattle.im_scan.proofs.ForCallers.{can-merge-seen}
use Rattle.im_scan.proofs.MergeLemmas.{give-one-answer}
use Rattle.im_scan.proofs.laws.parts_are_one_answer.Goals as goal

pub returns-clause-one : goal.returns-clause-one
returns-clause-one c = give-one-answer

pub returns-clause-mergeable : goal.returns-clause-mergeable
returns-clause-mergeable c bound history view extent few =
    can-merge-seen bound history view extent (partial bound (seen_to history view extent))
    (partial bound (seen_in history view extent)) few refl refl
