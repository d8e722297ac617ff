use Rattle.std.proofs.Common.{subst}
use Rattle.im_blocks.specs.Chains.{AllVersions}
use Rattle.im_blocks.specs.Transitions.{Purged}
use Rattle.im_blocks.proofs.LettingLemmas.{Purged-chains}
use Rattle.im_blocks.proofs.version_table.VersionTable.purge.Goals as goal

pub returns : goal.returns
returns c =
    let chains = c.purge_each.new.chains.items in
    let inside : AllVersions =
    record { slots = c.self.inside.slots; runs = c.self.inside.runs.items; chains = c.self.inside.chains.items; room = c.self.inside.room } in
    let new : AllVersions = record { slots = c.self.inside.slots; runs = c.self.inside.runs.items; chains = chains; room = c.self.inside.room } in
    subst (λ (b : AllVersions). Purged b new c.args.floor) c.self.view_is (Purged-chains inside chains c.args.floor c.purge_each.ensures)
