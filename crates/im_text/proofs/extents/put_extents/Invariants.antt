use Rattle.std.proofs.Common.{map, take}
use Rattle.im_text.specs.Extents.{served_record}
use Rattle.im_text.specs.inner.Pages.{Puts}
use Rattle.im_text.proofs.extents.put_extents.Given as goal

abbrev pub invariant-loop-extent : goal.invariant-loop-extent
invariant-loop-extent l = Puts l.fn.page l.page (map (λ e. served_record e.0 e.1) (take l.extent-index l.extents))
