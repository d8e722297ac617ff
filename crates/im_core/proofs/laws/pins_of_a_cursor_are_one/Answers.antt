use Rattle.im_core.proofs.PinLemmas.{committed-rows, one-scan, same-rows}
use Rattle.im_core.proofs.laws.pins_of_a_cursor_are_one.Goals as goal

pub returns-clause-committed : goal.returns-clause-committed
returns-clause-committed c = committed-rows

pub returns-clause-rows : goal.returns-clause-rows
returns-clause-rows c = same-rows

pub returns-clause-scan : goal.returns-clause-scan
returns-clause-scan c = one-scan
