use Rattle.std.proofs.Common.{map, take}
use Rattle.im_text.specs.Records.{records_text}
use Rattle.im_text.specs.Report.{mark_record}
use Rattle.im_text.specs.inner.Pages.{Ends}
use Rattle.im_text.proofs.report.put_marks.Given as goal

abbrev pub invariant-loop-mark : goal.invariant-loop-mark
invariant-loop-mark l = Ends l.fn.page l.page (records_text (map (mark_record l.fn.line) (take l.mark-index l.marks)))
