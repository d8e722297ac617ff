use Rattle.std.proofs.Common.{List, [], set, refl, ap, ◌∙◌}
use Rattle.std.proofs.lemmas.List.{get_or_read}
use Rattle.im_tables.specs.Table.{HasCell}
use Rattle.im_tables.proofs.ForCallers.{table_of}
use Rattle.im_tables.proofs.GrowthLemmas.{cell_at-row}
use Rattle.im_tables.proofs.cells.Cells.cell_mut.Goals as goal

pub returns : goal.returns
returns g c =
    let has : HasCell c.self.inside.lines.items c.args.table c.args.number = rw c.self.view_is c.requires in
    let row =
    get_or_read c.self.inside.lines.items c.args.table c.index_mut.result.now
    (table_of _ c.args.table c.args.number has) c.index_mut.ensures.value [] in (
      (refl, λ w. rw (← c.self.view_is) (ap (λ (line : List _). set c.self.inside.lines.items c.args.table (set line c.args.number w)) row)),
      record {
        writes_back = c.cell_mut.ensures.writes_back;
        value =
            c.cell_mut.ensures.value ∙ rw (← c.self.view_is) (cell_at-row g.T.Cell.blank c.self.inside.lines.items c.args.table c.args.number
            c.index_mut.result.now row);
      },
    )
