use Rattle.std.proofs.Common.{[], ap, refl, sym, ◌∙◌, arith}
use Rattle.std.specs.Option.{option_copied}
use Rattle.im_tables.specs.Table.{row_of}
use Rattle.im_blocks.specs.Chains.{AllVersions, run_versions}
use Rattle.im_blocks.proofs.ExtentLemmas.{slots-upto}
use Rattle.im_blocks.proofs.StandingLemmas.{IsCounted-one, IsCounted-run, IsHeld-found}
use Rattle.im_blocks.proofs.StoreLemmas.{in_run}
use Rattle.im_blocks.proofs.version_table.VersionTable.count_run.Goals as goal

pub returns-in_default : goal.returns-in_default
returns-in_default c =
    IsCounted-one c.args.self.now c.args.table c.args.rid c.args.end 0 [] c.requires.before
    (ap (λ o. run_versions c.args.rid (option_copied o)) (sym c.in_default.is)
    ∙ in_run c.args.self.now c.args.table c.args.rid c.args.number _ c.requires.slot c.run.ensures) refl

pub returns : goal.returns
returns c =
    let found = sym c.run.ensures ∙ ap option_copied c.in-Some.is in
    let held = IsHeld-found c.args.self.now.runs c.args.number c.args.table c.args.rid c.in-Some.run'.now found in
    let from = held.from in
    let to = held.to in
    let behind = c.run_end-next.ensures.from in
    let upto = c.run_end-next.ensures.upto in
    let least = c.min.ensures in
    let count = c.count.ensures in
    let before = c.requires.before in
    IsCounted-run c.args.self.now c.args.table c.args.rid c.args.end c.args.number c.run_end-next.result c.in-Some.run'.now (omega (arith, behind))
    (omega (arith, upto, least, before)) found (omega (arith, upto, least, count, from, to))
    (slots-upto c.args.self.now c.args.table c.args.rid c.args.number c.run_end-next.result c.of_table-cells.result.now
    (c.of_table-cells.ensures ∙ ap (λ (b : AllVersions). row_of b.slots c.args.table) c.self.view_is) c.requires.slot c.run_end-next.ensures.all)
