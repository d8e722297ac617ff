use Rattle.im_parse.proofs.Places.{same_spelling}
use Rattle.im_parse.proofs.laws.one_spelling.Goals as goal

pub returns : goal.returns
returns c = same_spelling
