use Rattle.std.proofs.Common.{take}
use Rattle.std.specs.Prelude.{flat_map}
use Rattle.im_text.specs.Entries.{column_fields}
use Rattle.im_text.specs.Records.{further}
use Rattle.im_text.specs.inner.Pages.{Adds}
use Rattle.im_text.proofs.entries.put_columns.Given as goal

abbrev pub invariant-loop-column : goal.invariant-loop-column
invariant-loop-column l = Adds l.fn.page l.page (further (flat_map column_fields (take l.column-index l.columns)))
