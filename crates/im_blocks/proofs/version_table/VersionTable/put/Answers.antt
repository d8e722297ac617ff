use Rattle.std.proofs.Common.{◌≡◌, ℕ, ◌<◌, ◌≤◌, ◌==◌, false, List, Option, get_or, sym, ap, ◌∙◌, subst, arith}
use Rattle.std.specs.Option.{is_some}
use Rattle.std.proofs.lemmas.Bool.{eq-eqb, true≢false}
use Rattle.im_versions.specs.declared.version.Version.{Version}
use Rattle.im_blocks.specs.declared.touched.Touched.{Touched}
use Rattle.im_blocks.specs.declared.slot.Slot.TheVariants.{InChain}
use Rattle.im_blocks.specs.Chains.{AllVersions, IsReady, newest_scn, slot_at, versions_at}
use Rattle.im_values.specs.declared.content.Content.{Content as Value}
use Rattle.im_blocks.specs.inner.Handing.{HasTaken}
use Rattle.im_blocks.specs.inner.Puts.{IsOneLonger}
use Rattle.im_blocks.proofs.Places.{got}
use Rattle.im_blocks.proofs.StoreLemmas.{HasTaken-chain, HasTaken-run, MayTakeRun-one, in_chain, ready_blank, ready_chain, ready_spare}
use Rattle.im_blocks.proofs.version_table.VersionTable.put.Goals as goal

-- the versions of a row number are of earlier commits, where this one gave it none
is_earlier : (b : AllVersions) (table rid scn : ℕ) → newest_scn (versions_at b table rid) ≤ scn → (newest_scn (versions_at b table rid) == scn) ≡ false →
    newest_scn (versions_at b table rid) < scn
is_earlier b table rid scn upto differs =
    let apart : newest_scn (versions_at b table rid) ≡ scn → ⊥ = λ e. true≢false (sym (eq-eqb _ _ e) ∙ differs) in
    grind (arith, apart, upto)

pub take-requires-clause-room : goal.take-requires-clause-room
take-requires-clause-room c =
    let table = c.args.change.table in
    let rid = c.args.change.rid in
    let number = c.in-InChain.number in
    let earlier = is_earlier c.args.self.now table rid c.args.scn c.requires.below (sym c.has_taken.ensures ∙ c.if-has_taken.false) in
    let slot = sym c.slot.ensures ∙ c.in-InChain.is in
    let ready = c.requires.ready earlier in
    let found = ready_chain c.args.self.now table rid number (is_some c.args.change.row) slot ready in
    let here =
    c.index_mut.ensures.value
    ∙ (ap (λ (b : AllVersions). get_or b.chains number c.index_mut.result.now) c.self.view_is
    ∙ got c.args.self.now.chains number found.was c.index_mut.result.now found.at) in
    subst (λ (x : Touched). 0 < x.chain.spare) (sym here)
    (ready_spare c.args.self.now table rid number (is_some c.args.change.row) found.was slot ready found.is)

pub take-requires-clause-later : goal.take-requires-clause-later
take-requires-clause-later c =
    let table = c.args.change.table in
    let rid = c.args.change.rid in
    let earlier = is_earlier c.args.self.now table rid c.args.scn c.requires.below (sym c.has_taken.ensures ∙ c.if-has_taken.false) in
    let slot = sym c.slot.ensures ∙ c.in-InChain.is in
    let found = ready_chain c.args.self.now table rid c.in-InChain.number (is_some c.args.change.row) slot (c.requires.ready earlier) in
    let versions = in_chain c.args.self.now table rid c.in-InChain.number _ slot (sym found.is) in
    let here =
    c.index_mut.ensures.value
    ∙ (ap (λ (b : AllVersions). get_or b.chains c.in-InChain.number c.index_mut.result.now) c.self.view_is
    ∙ got c.args.self.now.chains c.in-InChain.number found.was c.index_mut.result.now found.at) in
    subst (λ (vs : List Version). newest_scn vs < c.args.scn) (sym (ap (λ (x : Touched). x.chain.versions) here ∙ versions)) earlier

pub returns-in-InChain : goal.returns-in-InChain
returns-in-InChain c =
    let table = c.args.change.table in
    let rid = c.args.change.rid in
    let number = c.in-InChain.number in
    let was : AllVersions =
    record { slots = c.self.inside.slots; runs = c.self.inside.runs.items; chains = c.self.inside.chains.items; room = c.self.inside.room } in
    let is : was ≡ c.args.self.now = c.self.view_is in
    let earlier = is_earlier c.args.self.now table rid c.args.scn c.requires.below (sym c.has_taken.ensures ∙ c.if-has_taken.false) in
    let slot = subst (λ (b : AllVersions). slot_at b table rid ≡ InChain number) (sym is) (sym c.slot.ensures ∙ c.in-InChain.is) in
    let ready = subst (λ (b : AllVersions). IsReady b table rid (is_some c.args.change.row)) (sym is) (c.requires.ready earlier) in
    let found = ready_chain was table rid number (is_some c.args.change.row) slot ready in
    let here = c.index_mut.ensures.value ∙ got was.chains number found.was c.index_mut.result.now found.at in
    let longer = subst (λ (x : Touched). IsOneLonger x c.take.new.self c.args.scn c.args.change.row) here c.take.ensures in
    let later : newest_scn (versions_at was table rid) ≡ c.args.scn → ⊥ =
    λ e. let same = ap (λ (b : AllVersions). newest_scn (versions_at b table rid)) is in absurd (omega (arith, e, same, earlier)) in
    rw (← c.self.view_is) (HasTaken-chain was table rid number c.args.scn c.args.change.row found.was c.take.new.self slot found.is found.at found.own longer later)

pub put_run-requires : goal.put_run-requires
put_run-requires c =
    let table = c.args.change.table in
    let rid = c.args.change.rid in
    let earlier = is_earlier c.args.self.now table rid c.args.scn c.requires.below (sym c.has_taken.ensures ∙ c.if-has_taken.false) in
    let cell =
    ready_blank c.args.self.now table rid _ (λ k is. c.in_default.not-InChain k (c.slot.ensures ∙ is)) (c.requires.ready earlier) in
    let place = c.of_row.ensures.place in
    rw (place.0, place.1, place.2, c.of_row.ensures.rows)
    (MayTakeRun-one c.args.self.now table rid c.args.scn c.requires.some cell.blank cell.there c.requires.room)

pub returns-in_default : goal.returns-in_default
returns-in_default c =
    let place = c.of_row.ensures.place in
    let taken = rw (place.0, place.1, place.2, c.of_row.ensures.rows) at c.put_run.ensures in
    subst (λ (row : Option (List Value)). HasTaken c.args.self.now c.put_run.new.self c.args.change.table c.args.change.rid c.args.scn row)
    (sym c.unwrap.ensures)
    (HasTaken-run c.args.self.now c.put_run.new.self c.args.change.table c.args.change.rid c.args.scn c.unwrap.result taken)
