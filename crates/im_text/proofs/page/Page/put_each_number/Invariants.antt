use Rattle.std.proofs.Common.{map, take, decimal}
use Rattle.im_text.specs.Records.{further}
use Rattle.im_text.specs.inner.Pages.{Adds}
use Rattle.im_text.proofs.page.Page.put_each_number.Given as goal

abbrev pub invariant-loop-number : goal.invariant-loop-number
invariant-loop-number l = Adds l.fn.self l.self (further (map decimal (take l.number-index l.numbers)))
