use Rattle.std.proofs.Common.{◌<◌, All, subst}
use Rattle.im_blocks.specs.Chains.{AllVersions}
use Rattle.im_blocks.specs.declared.run.Run.{Run}
use Rattle.im_blocks.specs.declared.touched.Touched.{Touched}
use Rattle.im_blocks.specs.inner.Letting.{NoneFrom}
use Rattle.im_blocks.proofs.StandingLemmas.{NoneFrom-both}
use Rattle.im_blocks.proofs.version_table.VersionTable.tables_end.Goals as goal

pub returns-clause-past : goal.returns-clause-past
returns-clause-past c =
    let inside : AllVersions =
    record { slots = c.self.inside.slots; runs = c.self.inside.runs.items; chains = c.self.inside.chains.items; room = c.self.inside.room } in
    subst (λ (b : AllVersions). NoneFrom b c.max.result) c.self.view_is
    (NoneFrom-both inside c.tables_end.result c.tables_end-2.result c.max.result
    (subst (All (λ (x : Run). x.table < c.tables_end.result)) c.deref.ensures.value c.tables_end.ensures.past)
    (subst (All (λ (x : Touched). x.table < c.tables_end-2.result)) c.deref-2.ensures.value c.tables_end-2.ensures.past) c.max.ensures)
