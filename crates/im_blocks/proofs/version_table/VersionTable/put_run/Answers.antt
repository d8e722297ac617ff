use Rattle.std.proofs.Common.{◌≡◌, ℕ, ◌-◌, List, length, sym, ◌∙◌, subst, arith}
use Rattle.im_tables.proofs.ForCallers.{table_of}
use Rattle.im_blocks.specs.declared.run.Run.{Run}
use Rattle.im_blocks.specs.declared.touched.Touched.{Touched}
use Rattle.im_blocks.specs.Chains.{AllVersions}
use Rattle.im_blocks.specs.Runs.{rows_in}
use Rattle.im_blocks.specs.inner.Handing.{MayTakeRun}
use Rattle.im_blocks.specs.inner.Puts.{HasEntered}
use Rattle.im_blocks.proofs.StoreLemmas.{HasTakenRun-put, cells-end}
use Rattle.im_blocks.proofs.version_table.VersionTable.put_run.Goals as goal

pub enter-requires-clause-there : goal.enter-requires-clause-there
enter-requires-clause-there c =
    let run = c.args.run in
    let may = subst (λ (b : AllVersions). MayTakeRun b run.table run.first (length (rows_in run.rows)) run.scn) (sym c.self.view_is) c.requires in
    let below = (cells-end c.self.inside.slots run.table run.first (length (rows_in run.rows)) may.any may.cells).below in
    let any = may.any in
    omega (arith, below, any)

pub enter-requires-clause-table : goal.enter-requires-clause-table
enter-requires-clause-table c =
    let run = c.args.run in
    let may = subst (λ (b : AllVersions). MayTakeRun b run.table run.first (length (rows_in run.rows)) run.scn) (sym c.self.view_is) c.requires in
    table_of c.self.inside.slots run.table _ (cells-end c.self.inside.slots run.table run.first (length (rows_in run.rows)) may.any may.cells)

pub returns : goal.returns
returns c =
    let run = c.args.run in
    let was : AllVersions =
    record { slots = c.self.inside.slots; runs = c.self.inside.runs.items; chains = c.self.inside.chains.items; room = c.self.inside.room } in
    let may = subst (λ (b : AllVersions). MayTakeRun b run.table run.first (length (rows_in run.rows)) run.scn) (sym c.self.view_is) c.requires in
    let number : c.len-number.result ≡ length was.runs = c.len-number.ensures ∙ c.self.inside.runs.ok.0 in
    let went : HasEntered was.runs was.chains (length was.runs) run was.slots c.enter.new.slots =
    subst (λ (n : ℕ). HasEntered was.runs was.chains n run was.slots c.enter.new.slots) number
    (subst (λ (runs : List Run). HasEntered runs was.chains c.len-number.result run was.slots c.enter.new.slots) c.deref.ensures.value
    (subst (λ (chains : List Touched). HasEntered c.deref.result.now chains c.len-number.result run was.slots c.enter.new.slots) c.deref-2.ensures.value
    c.enter.ensures)) in
    let taken = HasTakenRun-put was run c.enter.new.slots (was.room - 1) may.some may.free went (omega arith) in
    rw (← c.self.view_is, c.push_reserved.ensures.items) taken
