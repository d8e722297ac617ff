use Rattle.im_lanes.proofs.MaskLemmas.{zero-holds}
use Rattle.im_lanes.proofs.mask.Mask.none.Goals as goal

pub invariant_of-result : goal.invariant_of-result
invariant_of-result c = (c.requires, (zero-holds c.args.len _ _ c.word_count.ensures c.in_ok-zero_words.ensures).whole)

pub returns : goal.returns
returns c = (zero-holds c.args.len _ _ c.word_count.ensures c.in_ok-zero_words.ensures).is
