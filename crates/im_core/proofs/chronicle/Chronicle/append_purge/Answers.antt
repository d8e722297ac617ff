use Rattle.std.proofs.Common.{sym, ◌∙◌}
use Rattle.im_history.specs.declared.entry.What.TheVariants.{Purge}
use Rattle.im_history.proofs.HorizonLaws.{horizon-push}
use Rattle.im_core.proofs.chronicle.Chronicle.append_purge.Goals as goal

pub add-requires-clause-horizon : goal.add-requires-clause-horizon
add-requires-clause-horizon c = c.requires.keeps ∙ sym (horizon-push c.args.self.now.entries (record { who = c.args.who; what = Purge }))
