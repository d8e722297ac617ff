use Rattle.check_store.proofs.SessionLemmas.{agrees-new}
use Rattle.check_store.proofs.standby.comes_to_a_standby.Goals as goal

pub play_each-requires-clause-agrees : goal.play_each-requires-clause-agrees
play_each-requires-clause-agrees g c κs within = rw c.new-session.ensures (agrees-new (g.H.Reach.known c.args.store.now) c.requires.fresh)
