use Rattle.std.proofs.Common.{subst}
use Rattle.im_feed.specs.Lawful.{AreLawful}
use Rattle.im_feed.proofs.FirstLemmas.{begins-first, popped-all, popped-first}
use Rattle.im_feed.proofs.StepLemmas.{lawful-beginning}
use Rattle.im_feed.proofs.laws.what_was_popped_was_committed.Goals as goal

pub returns-clause-lawful : goal.returns-clause-lawful
returns-clause-lawful c popped is = (is.limits, is.history, is.lawful, begins-first popped is.history is.begins)

pub returns-clause-pushed : goal.returns-clause-pushed
returns-clause-pushed c popped pushed is begins = lawful-beginning popped begins.rest (subst AreLawful begins.is is)

pub returns-clause-first : goal.returns-clause-first
returns-clause-first c sent popped pushed log more first begins = popped-first sent popped pushed log more first begins

pub returns-clause-all : goal.returns-clause-all
returns-clause-all c sent popped pushed log first all same = popped-all sent popped pushed log first all same
