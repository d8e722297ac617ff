use Rattle.std.proofs.Common.{arith, length, ap, ◌∙◌}
use Rattle.im_lanes.specs.Masks.{words_of}
use Rattle.im_lanes.proofs.MaskLemmas.{length-words_of, length-of}
use Rattle.im_lanes.proofs.mask.Mask.words.Goals as goal

pub returns-clause-count : goal.returns-clause-count
returns-clause-count c = ap length (c.as_slice.ensures.value ∙ (c.self.invariant.1 ∙ ap words_of c.self.view_is)) ∙ length-words_of _

pub returns-clause-few : goal.returns-clause-few
returns-clause-few c = omega (arith, length-of _ _ _ c.self.view_is, c.self.invariant.0)
