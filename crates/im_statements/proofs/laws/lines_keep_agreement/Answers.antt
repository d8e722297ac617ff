use Rattle.im_statements.proofs.LineLaws.{keep-agreement, keep-transaction}
use Rattle.im_statements.proofs.laws.lines_keep_agreement.Goals as goal

pub returns-clause-cursors : goal.returns-clause-cursors
returns-clause-cursors c = keep-agreement

pub returns-clause-transaction : goal.returns-clause-transaction
returns-clause-transaction c = keep-transaction
