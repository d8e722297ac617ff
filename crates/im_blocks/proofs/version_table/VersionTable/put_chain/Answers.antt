use Rattle.std.proofs.Common.{◌<◌, List, ap, sym, ◌∙◌, subst}
use Rattle.im_tables.specs.Table.{HasCell, with_cell}
use Rattle.im_versions.specs.declared.version.Version.{Version}
use Rattle.im_blocks.specs.declared.slot.Slot.{Slot}
use Rattle.im_blocks.specs.Chains.{AllVersions, slot_at, spare_in, versions_at}
use Rattle.im_blocks.specs.Transitions.{SameVersions}
use Rattle.im_blocks.specs.inner.Puts.{IsChained}
use Rattle.im_blocks.proofs.StoreLemmas.{SameVersions-chained, spare-chained}
use Rattle.im_blocks.proofs.version_table.VersionTable.put_chain.Goals as goal

pub returns-clause-same : goal.returns-clause-same
returns-clause-same c =
    let table = c.args.table in
    let rid = c.args.rid in
    let was : AllVersions =
    record { slots = c.self.inside.slots; runs = c.self.inside.runs.items; chains = c.self.inside.chains.items; room = c.self.inside.room } in
    let there = subst (λ (b : AllVersions). HasCell b.slots table rid) (sym c.self.view_is) c.requires.there in
    let versions = c.requires.chain ∙ ap (λ (b : AllVersions). versions_at b table rid) (sym c.self.view_is) in
    let chained = subst (λ (vs : List Version). IsChained c.self.inside.chains.items c.push.new.chains.items c.in_ok-number.number table rid vs) versions
    c.in_ok-number.ensures.ok in
    rw (← c.self.view_is)
    (subst
    (λ (slot : Slot). SameVersions was (record { slots = with_cell table rid slot was.slots; runs = was.runs; chains = c.push.new.chains.items; room = was.room }))
    (sym c.in_chain.ensures) (SameVersions-chained was table rid c.in_ok-number.number c.push.new.chains.items there chained))

pub returns-clause-room : goal.returns-clause-room
returns-clause-room c =
    let table = c.args.table in
    let rid = c.args.rid in
    let there = subst (λ (b : AllVersions). HasCell b.slots table rid) (sym c.self.view_is) c.requires.there in
    let was : AllVersions =
    record { slots = c.self.inside.slots; runs = c.self.inside.runs.items; chains = c.self.inside.chains.items; room = c.self.inside.room } in
    subst
    (λ (slot : Slot). 0 < spare_in c.push.new.chains.items table rid (slot_at (record { slots = with_cell table rid slot was.slots; runs = was.runs; chains = c.push.new.chains.items; room = was.room }) table rid))
    (sym c.in_chain.ensures)
    (spare-chained was table rid c.in_ok-number.number c.push.new.chains.items c.args.chain.versions there c.in_ok-number.ensures.ok)
