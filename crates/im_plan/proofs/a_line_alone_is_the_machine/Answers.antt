use Rattle.im_plan.proofs.AloneLaws.{line_alone}
use Rattle.im_plan.proofs.a_line_alone_is_the_machine.Goals as goal

pub returns : goal.returns
returns g c = line_alone
