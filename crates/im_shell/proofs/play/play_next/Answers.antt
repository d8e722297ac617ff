use Rattle.std.proofs.lemmas.Result.{on_ok_weaker, on_err_weaker}
use Rattle.im_play.specs.Between.{machine_of}
use Rattle.im_shell.specs.inner.Going.{PlaysNext, PlaysNextPart}
use Rattle.im_shell.proofs.play.play_next.Goals as goal

pub returns-clause-ok : goal.returns-clause-ok
returns-clause-ok g c =
    on_ok_weaker {Q = PlaysNext c.args.writer.now.shown (g.H.Reach.known c.args.reach.now).limits.area c.args.bytes.now c.args.number
    (machine_of (g.H.Reach.known c.args.reach.now) c.args.players.now.sessions.items c.args.players.now.background) _ _ _ c.args.writer.now.waiting.now _ _ _} _
    (λ sends. record { reply = c.play_bytes-reply.result; plays = c.play_bytes-reply.ensures.plays; sends = sends }) c.put_reply-put.ensures.ok

pub returns-clause-err : goal.returns-clause-err
returns-clause-err g c =
    on_err_weaker {Q = PlaysNextPart (g.H.Reach.known c.args.reach.now).limits.area c.args.bytes.now c.args.number
    (machine_of (g.H.Reach.known c.args.reach.now) c.args.players.now.sessions.items c.args.players.now.background) _ _ _ c.args.writer.now.waiting.now _ _} _
    (λ sends. record { reply = c.play_bytes-reply.result; plays = c.play_bytes-reply.ensures.plays; sends = sends }) c.put_reply-put.ensures.err
