use Rattle.im_codes.proofs.NumberingLemmas.{some-held}
use Rattle.im_codes.proofs.coding.code_near.Goals as goal

pub unwrap-requires : goal.unwrap-requires
unwrap-requires c = some-held c.code_of.result c.code_of.ensures.absent c.requires

pub returns : goal.returns
returns c = rw c.unwrap.ensures at c.code_of.ensures.there
