use Rattle.im_unit.proofs.ReadLemmas.{full-at}
use Rattle.im_unit.proofs.presence.Presence.is_present.Goals as goal

pub returns-then-is_full : goal.returns-then-is_full
returns-then-is_full c = full-at c.args.self.now c.args.place c.if-is_full.ensures c.requires
