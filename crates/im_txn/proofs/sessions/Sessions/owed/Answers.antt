use Rattle.im_txn.proofs.StandingLemmas.{owed-few}
use Rattle.im_txn.proofs.sessions.Sessions.owed.Goals as goal

pub returns-clause-few : goal.returns-clause-few
returns-clause-few c = owed-few _ c.self.invariant
