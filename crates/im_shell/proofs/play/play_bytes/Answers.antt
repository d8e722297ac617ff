use Rattle.im_shell.proofs.play.play_bytes.Goals as goal

pub returns-clause-plays : goal.returns-clause-plays
returns-clause-plays g c = record { line = c.read_line-line.result; read = c.read_line-line.ensures.read; answers = c.play_line-reply.ensures.answers }
