use Rattle.std.proofs.Common.{map, take}
use Rattle.im_text.specs.Entries.{value_field}
use Rattle.im_text.specs.Records.{further}
use Rattle.im_text.specs.inner.Pages.{Adds}
use Rattle.im_text.proofs.entries.put_values.Given as goal

abbrev pub invariant-loop-value : goal.invariant-loop-value
invariant-loop-value l = Adds l.fn.page l.page (further (map value_field (take l.value-index l.values)))
