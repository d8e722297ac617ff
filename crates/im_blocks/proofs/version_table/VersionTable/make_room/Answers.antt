use Rattle.std.proofs.Common.{◌≡◌, ◌<◌, ℕ, OnOk, true, sym, ap, ◌∙◌, subst, arith}
use Rattle.std.specs.Option.{is_some}
use Rattle.im_versions.specs.Versions.{Versions}
use Rattle.im_blocks.specs.declared.touched.Touched.{Touched}
use Rattle.im_blocks.specs.declared.slot.Slot.TheVariants.{InChain}
use Rattle.im_blocks.specs.Chains.{AllVersions, chain_at, slot_at}
use Rattle.im_blocks.specs.inner.Puts.{IsRoomier}
use Rattle.im_blocks.proofs.Places.{below, got}
use Rattle.im_blocks.proofs.StoreLemmas.{SameVersions-roomier, found_some, in_chain, not_found, spare-set}
use Rattle.im_blocks.proofs.version_table.VersionTable.make_room.Goals as goal

pub put_chain-requires-clause-chain : goal.put_chain-requires-clause-chain
put_chain-requires-clause-chain c =
    let none = not_found (chain_at c.args.self.now.chains c.args.number c.args.table c.args.rid) (sym c.has_chain.ensures ∙ c.if-not-has_chain.true) in
    ap (λ (chain : Versions). chain.versions) c.new.ensures
    ∙ in_chain c.args.self.now c.args.table c.args.rid c.args.number _ c.requires.slot (sym none)

pub index_mut-requires : goal.index_mut-requires
index_mut-requires c =
    let some = subst (λ (b : AllVersions). is_some (chain_at b.chains c.args.number c.args.table c.args.rid) ≡ true) (sym c.self.view_is)
    (sym c.has_chain.ensures ∙ c.if-not-has_chain.false) in
    let found = found_some c.self.inside.chains.items c.args.number c.args.table c.args.rid some in
    let less = below c.self.inside.chains.items c.args.number found.was found.at in
    let all = c.self.inside.chains.ok.0 in
    omega (arith, less, all)

pub returns-clause-same : goal.returns-clause-same
returns-clause-same c =
    let some = subst (λ (b : AllVersions). is_some (chain_at b.chains c.args.number c.args.table c.args.rid) ≡ true) (sym c.self.view_is)
    (sym c.has_chain.ensures ∙ c.if-not-has_chain.false) in
    let found = found_some c.self.inside.chains.items c.args.number c.args.table c.args.rid some in
    let was = c.index_mut.ensures.value ∙ got c.self.inside.chains.items c.args.number found.was c.index_mut.result.now found.at in
    let roomier = subst (λ (x : Touched). IsRoomier x c.reserve.new.self) was c.reserve.ensures.same in
    rw (← c.self.view_is) (SameVersions-roomier _ c.args.number found.was c.reserve.new.self found.at roomier)

pub returns-clause-room : goal.returns-clause-room
returns-clause-room c =
    let some = subst (λ (b : AllVersions). is_some (chain_at b.chains c.args.number c.args.table c.args.rid) ≡ true) (sym c.self.view_is)
    (sym c.has_chain.ensures ∙ c.if-not-has_chain.false) in
    let found = found_some c.self.inside.chains.items c.args.number c.args.table c.args.rid some in
    let was = c.index_mut.ensures.value ∙ got c.self.inside.chains.items c.args.number found.was c.index_mut.result.now found.at in
    let roomier = subst (λ (x : Touched). IsRoomier x c.reserve.new.self) was c.reserve.ensures.same in
    let slot = subst (λ (b : AllVersions). slot_at b c.args.table c.args.rid ≡ InChain c.args.number) (sym c.self.view_is) c.requires.slot in
    subst (λ (n : ℕ). OnOk c.reserve.result (0 < n))
    (sym (spare-set c.self.inside.chains.items c.args.number c.args.table c.args.rid found.was c.reserve.new.self _ slot found.at found.own roomier))
    c.reserve.ensures.ok
