use Rattle.im_statements.proofs.AlteredLaws.{tell-columns, tell-no_columns}
use Rattle.im_statements.proofs.laws.lines_tell_of_columns.Goals as goal

pub returns-clause-tell : goal.returns-clause-tell
returns-clause-tell c = tell-columns

pub returns-clause-alone : goal.returns-clause-alone
returns-clause-alone c = tell-no_columns
