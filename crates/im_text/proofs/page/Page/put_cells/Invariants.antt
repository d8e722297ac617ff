use Rattle.std.proofs.Common.{map, take}
use Rattle.im_text.specs.Cells.{cell_field}
use Rattle.im_text.specs.Records.{further}
use Rattle.im_text.specs.inner.Pages.{Adds}
use Rattle.im_text.proofs.page.Page.put_cells.Given as goal

abbrev pub invariant-loop-cell : goal.invariant-loop-cell
invariant-loop-cell l = Adds l.fn.self l.self (further (map cell_field (take l.cell-index l.cells)))
