use Rattle.std.proofs.Common.{◌<◌, ◌≤◌, length, sym, ap, ◌∙◌, arith}
use Rattle.im_tables.specs.Table.{with_cells}
use Rattle.im_tables.proofs.FillLemmas.{with_cells-made, with_cells-past}
use Rattle.im_tables.proofs.cells.Cells.fill.Goals as goal

pub returns-then-table-len : goal.returns-then-table-len
returns-then-table-len g c =
    let size = c.self.inside.lines.ok.0 in
    let inside : c.args.table < length c.self.inside.lines.items = omega (arith, size, c.len.ensures, c.if-table-len.true) in
    with_cells-made c.self.inside.lines.items c.args.table c.args.first c.args.count c.args.cell c.index_mut.result.now c.fill.new.self inside
    c.index_mut.ensures.value c.fill.ensures
    ∙ ap (with_cells c.args.table c.args.first c.args.count c.args.cell) c.self.view_is

pub returns-else-table-len : goal.returns-else-table-len
returns-else-table-len g c =
    let size = c.self.inside.lines.ok.0 in
    let past : length c.self.inside.lines.items ≤ c.args.table = omega (arith, size, c.len.ensures, c.if-table-len.false) in
    sym c.self.view_is
    ∙ (sym (with_cells-past c.self.inside.lines.items c.args.table c.args.first c.args.count c.args.cell past)
    ∙ ap (with_cells c.args.table c.args.first c.args.count c.args.cell) c.self.view_is)
