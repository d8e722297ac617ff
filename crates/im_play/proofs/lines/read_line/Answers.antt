use Rattle.im_play.proofs.KnownLemmas.{known_line}
use Rattle.im_play.proofs.lines.read_line.Goals as goal

pub returns-clause-read : goal.returns-clause-read
returns-clause-read c = record { is_line = c.line_of.ensures.is }

pub returns-clause-known : goal.returns-clause-known
returns-clause-known c = known_line _ _ _ c.line_of.ensures.is c.line_of.ensures.names
