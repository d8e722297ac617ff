use Rattle.im_replies.specs.Causes.{fault_of}
use Rattle.im_session.proofs.RefusalLemmas.{refused-told}
use Rattle.im_session.proofs.refusals.refused_reply.Goals as goal

pub returns : goal.returns
returns c = rw (c.refused_with.ensures, c.none.ensures, c.of-fault.ensures)
    (refused-told (fault_of c.args.aim) c.args.k c.args.refused.place c.args.refused.why)
