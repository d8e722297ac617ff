use Rattle.std.proofs.Common.{sym, ap, ◌∙◌}
use Rattle.std.specs.Option.{option_map}
use Rattle.im_directory.specs.declared.journals.Growing.{Growing}
use Rattle.im_directory.specs.Steps.{slot_dropped}
use Rattle.im_directory.proofs.EffectLemmas.{IsOut-evicted, kill_held}
use Rattle.im_directory.proofs.PlacedLemmas.{IsPlaced-out, changed_keeps}
use Rattle.im_directory.proofs.directory.Directory.take_out.Goals as goal

pub kill-requires : goal.kill-requires
kill-requires g c = λ id is.
    let living = c.id_of.ensures ∙ ap (option_map (λ (b : Growing). b.id)) c.evict-current.ensures.build in
    kill_held c.self.inside.shelves c.self.inside.builds c.args.table c.args.extent c.self.invariant.sound id (sym living ∙ is)

pub invariant_of-self : goal.invariant_of-self
invariant_of-self g c =
    let living = c.id_of.ensures ∙ ap (option_map (λ (b : Growing). b.id)) c.evict-current.ensures.build in
    let out =
    IsOut-evicted c.self.inside.shelves c.evict-current.new.self c.self.inside.builds c.kill.new.self c.args.place c.args.table c.args.extent
    c.id_of.result c.self.invariant.sound living c.evict-current.ensures.slot c.kill.ensures in
    IsPlaced-out _ _ c.args.place c.args.table c.args.extent out
    (changed_keeps slot_dropped _ _ c.args.table c.args.extent c.evict-current.ensures.slot) c.self.invariant

pub returns-clause-out : goal.returns-clause-out
returns-clause-out g c =
    let living = c.id_of.ensures ∙ ap (option_map (λ (b : Growing). b.id)) c.evict-current.ensures.build in
    rw (← c.self.view_is)
    (IsOut-evicted c.self.inside.shelves c.evict-current.new.self c.self.inside.builds c.kill.new.self c.args.place c.args.table c.args.extent
    c.id_of.result c.self.invariant.sound living c.evict-current.ensures.slot c.kill.ensures)
