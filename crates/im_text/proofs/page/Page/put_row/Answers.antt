use Rattle.std.proofs.Common.{codes, map}
use Rattle.im_text.specs.Cells.{cell_field, row_record}
use Rattle.im_text.proofs.PageLemmas.{adds-more, whole-ok}
use Rattle.im_text.proofs.page.Page.put_row.Goals as goal

pub returns : goal.returns
returns c =
    let cells = map cell_field c.args.cells.now in
    let fields = adds-more _ _ _ (codes "row") cells c.in_ok-put.ensures c.in_ok-put_cells.ensures in
    whole-ok _ _ _ _ _ (row_record c.args.cells.now) c.in_ok-begin.ensures fields c.end.ensures
