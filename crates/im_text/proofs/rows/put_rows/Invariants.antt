use Rattle.std.proofs.Common.{map, take}
use Rattle.im_text.specs.Cells.{row_record}
use Rattle.im_text.specs.inner.Pages.{Puts}
use Rattle.im_text.proofs.rows.put_rows.Given as goal

abbrev pub invariant-loop-cells : goal.invariant-loop-cells
invariant-loop-cells l = Puts l.fn.page l.page (map (λ cells. row_record cells.items) (take l.cells-index l.cells-items))
