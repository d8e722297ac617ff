use Rattle.std.proofs.Common.{map, take}
use Rattle.im_text.specs.Records.{further}
use Rattle.im_text.specs.inner.Pages.{Adds}
use Rattle.im_text.specs.inner.Shown.{shown}
use Rattle.im_text.proofs.page.Page.put_fields.Given as goal

abbrev pub invariant-loop-field : goal.invariant-loop-field
invariant-loop-field l = Adds l.fn.self l.self (further (map shown (take l.field-index l.fields)))
