use Rattle.im_unit.proofs.ReadLemmas.{full-before}
use Rattle.im_unit.proofs.presence.Presence.before.Goals as goal

pub returns-then-is_full : goal.returns-then-is_full
returns-then-is_full c = full-before c.args.self.now c.args.place c.if-is_full.ensures c.requires
