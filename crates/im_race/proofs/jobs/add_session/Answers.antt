use Rattle.im_race.proofs.SetUpLemmas.{not-given}
use Rattle.im_race.proofs.jobs.add_session.Goals as goal

pub split-requires-clause-not_given : goal.split-requires-clause-not_given
split-requires-clause-not_given c = not-given c.args.first.now.gave c.args.who c.requires.given
