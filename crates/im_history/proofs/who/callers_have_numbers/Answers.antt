use Rattle.im_history.proofs.Laws.{IsLegal-numbers}
use Rattle.im_history.proofs.who.callers_have_numbers.Goals as goal

pub returns : goal.returns
returns c = IsLegal-numbers
