use Rattle.im_standby.proofs.StandingLemmas.{IsOf-becomes}
use Rattle.im_standby.proofs.standby.Standby.apply.Goals as goal

pub returns-in-Ok-clause-ok : goal.returns-in-Ok-clause-ok
returns-in-Ok-clause-ok c = λ members is. IsOf-becomes c.args.self.now c.take_in.new.self members c.args.member c.in-Ok.ensures.ok is
