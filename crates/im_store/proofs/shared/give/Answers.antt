use Rattle.im_store.proofs.CallLemmas.{was_given}
use Rattle.im_store.proofs.shared.give.Goals as goal

pub returns-clause-gave : goal.returns-clause-gave
returns-clause-gave g c = was_given c.args.pass.now c.give.new.pass c.args.core c.give.ensures.pass c.requires.grew c.known.ensures
