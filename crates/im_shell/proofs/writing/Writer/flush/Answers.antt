use Rattle.im_shell.proofs.SentLemmas.{OnErr-always, SendsPart-took}
use Rattle.im_shell.proofs.writing.Writer.flush.Goals as goal

pub returns-in_err-write_all-clause-err : goal.returns-in_err-write_all-clause-err
returns-in_err-write_all-clause-err g c =
    OnErr-always _ (SendsPart-took _ _ _ (rw c.bytes.ensures at c.in_err-write_all.ensures.err))
