use Rattle.im_session.proofs.RefusalLemmas.{write-refused}
use Rattle.im_session.proofs.refusals.write_refused.Goals as goal

pub returns : goal.returns
returns c = rw (c.refused_with.ensures, c.of-fault.ensures) (write-refused 1 c.args.refused.place c.args.marks c.args.refused.why)
