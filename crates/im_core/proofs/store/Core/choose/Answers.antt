use Rattle.std.proofs.Common.{ap, ◌∙◌}
use Rattle.im_history.specs.Queue.{next}
use Rattle.im_history.proofs.ExtentLaws.{extents-of-units}
use Rattle.im_history.proofs.ShapeLaws.{per_at-some}
use Rattle.im_directory.proofs.ForCallers.{empty-by, due-by, is_stale-by}
use Rattle.im_core.specs.Seen.{Seen}
use Rattle.im_core.proofs.store.Core.choose.Goals as goal

pub returns : goal.returns
returns g c =
    let h = c.self.inside.history.entries in
    let content = g.U.UnitLike.content in
    let holds = c.self.invariant in
    c.next_task.ensures h (record {
      made = holds.tables.tables;
      gave = rw c.as_slice.ensures.value holds.tables.gives;
      lists = record {
        extents = extents-of-units _ h holds.legal;
        empty = λ table extent. empty-by content h c.self.inside.directory table extent holds.units;
        due = λ table extent. due-by content h c.self.inside.directory table extent holds.units (per_at-some _ h table holds.legal);
        stale = λ table extent. is_stale-by content h c.self.inside.directory table extent holds.units (per_at-some _ h table holds.legal);
      };
      demands = c.demand.ensures;
    })
    ∙ ap (λ (s : Seen). next s.log) c.self.view_is
