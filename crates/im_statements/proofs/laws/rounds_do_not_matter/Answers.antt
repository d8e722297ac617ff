use Rattle.im_statements.proofs.RoundLaws.{play-same, stay-among_others, stay-enough}
use Rattle.im_statements.proofs.laws.rounds_do_not_matter.Goals as goal

pub returns-clause-same : goal.returns-clause-same
returns-clause-same c = play-same

pub returns-clause-enough : goal.returns-clause-enough
returns-clause-enough c = stay-enough

pub returns-clause-others : goal.returns-clause-others
returns-clause-others c = stay-among_others
