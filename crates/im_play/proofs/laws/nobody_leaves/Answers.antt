use Rattle.im_play.proofs.StayingLaws.{nobody-leaves-behind, nobody-leaves-dropped}
use Rattle.im_statements.proofs.LineLaws.{nobody-leaves}
use Rattle.im_play.proofs.laws.nobody_leaves.Goals as goal

pub returns-clause-sessions : goal.returns-clause-sessions
returns-clause-sessions c = nobody-leaves

pub returns-clause-background : goal.returns-clause-background
returns-clause-background c = nobody-leaves-behind

pub returns-clause-dropped : goal.returns-clause-dropped
returns-clause-dropped c = nobody-leaves-dropped
