use Rattle.std.proofs.Common.{◌+◌, min, sym, ap, ◌∙◌}
use Rattle.im_tables.specs.Table.{with_range}
use Rattle.im_tables.proofs.FillLemmas.{with_range-outside, with_range-whole}
use Rattle.im_tables.proofs.line.Line.fill.Goals as goal

pub returns-then-first-end : goal.returns-then-first-end
returns-then-first-end g c =
    with_range-whole c.self.inside.cells.items c.fill.new.elements c.deref_mut.result.now c.args.first c.args.count c.min-end.result c.self.inside.cells.len
    c.args.cell c.self.inside.cells.ok.0 c.deref_mut.ensures.value
    (c.min-end.ensures ∙ ap (min (c.args.first + c.args.count)) c.len.ensures) c.if-first-end.true c.fill.ensures
    ∙ ap (with_range c.args.first c.args.count c.args.cell) c.self.view_is

pub returns-else-first-end : goal.returns-else-first-end
returns-else-first-end g c =
    sym c.self.view_is
    ∙ (with_range-outside c.self.inside.cells.items c.args.first c.args.count c.min-end.result c.self.inside.cells.len c.args.cell
    c.self.inside.cells.ok.0 (c.min-end.ensures ∙ ap (min (c.args.first + c.args.count)) c.len.ensures) c.if-first-end.false
    ∙ ap (with_range c.args.first c.args.count c.args.cell) c.self.view_is)
