use Rattle.std.proofs.Common.{map, take}
use Rattle.im_text.specs.Entries.{change_record}
use Rattle.im_text.specs.Records.{records_text}
use Rattle.im_text.specs.inner.Pages.{Ends}
use Rattle.im_text.proofs.entries.put_changes.Given as goal

abbrev pub invariant-loop-at : goal.invariant-loop-at
invariant-loop-at l = Ends l.fn.page l.page (records_text (map (change_record l.fn.place) (take l.at l.changes)))
