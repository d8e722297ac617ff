use Rattle.im_shell.proofs.SentLemmas.{OnErr-always, Sends-after, SendsPart-after, SendsPart-more}
use Rattle.im_shell.proofs.writing.Writer.put_next.Goals as goal

pub returns-in_err-put-clause-err : goal.returns-in_err-put-clause-err
returns-in_err-put-clause-err g c = OnErr-always _ (SendsPart-more _ _ _ _ c.in_err-put.ensures.err)

pub returns-in_err-flush_piece-clause-err : goal.returns-in_err-flush_piece-clause-err
returns-in_err-flush_piece-clause-err g c = OnErr-always _ (SendsPart-after _ _ _ _ _ c.in_ok-put.ensures.ok c.in_err-flush_piece.ensures.err)

pub returns-clause-ok : goal.returns-clause-ok
returns-clause-ok g c = Sends-after _ _ _ _ _ _ c.in_ok-put.ensures.ok c.in_ok-flush_piece.ensures.ok
