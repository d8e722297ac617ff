use Rattle.im_unit.proofs.presence.Presence.count.Goals as goal

pub returns-clause-few : goal.returns-clause-few
returns-clause-few c = c.self.invariant.1
