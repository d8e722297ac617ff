use Rattle.im_reach.proofs.AlteredLaws.{alone-unaltered, others-altered}
use Rattle.im_store.proofs.laws.columns_come_from_others.Goals as goal

pub returns-clause-others : goal.returns-clause-others
returns-clause-others c = others-altered

pub returns-clause-alone : goal.returns-clause-alone
returns-clause-alone c = alone-unaltered
