use Rattle.im_play.proofs.SessionsLemmas.{answers-command, answers-session}
use Rattle.im_play.proofs.players.play_line.Goals as goal

pub returns-in-Session-clause-answers : goal.returns-in-Session-clause-answers
returns-in-Session-clause-answers g c =
    answers-session _ _ _ c.args.line.now _ _ _ _ c.play_statement.result c.in-Session.is c.play_statement.ensures.answer

pub returns-in-Background-clause-answers : goal.returns-in-Background-clause-answers
returns-in-Background-clause-answers g c =
    answers-command _ _ _ c.args.line.now _ _ _ c.play_command.result c.in-Background.is c.play_command.ensures.answer
