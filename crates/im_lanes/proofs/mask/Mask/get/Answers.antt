use Rattle.std.proofs.Common.{length, arith, sym, ap, ◌∙◌}
use Rattle.im_lanes.proofs.MaskLemmas.{length-bits_in, word-inside, bit-read}
use Rattle.im_lanes.proofs.mask.Mask.get.Goals as goal

pub index-requires : goal.index-requires
index-requires c = omega (arith, word-inside _ _ _ c.args.i c.self.view_is c.self.invariant.1 c.requires, c.self.inside.words.ok.0)

pub overflow_cast-i : goal.overflow_cast-i
overflow_cast-i c = record { fits = let long = ap length (sym c.self.view_is) ∙ length-bits_in _ _ in omega (arith, long, c.requires, c.self.invariant.0) }

pub returns : goal.returns
returns c =
    let there = word-inside _ _ _ c.args.i c.self.view_is c.self.invariant.1 c.requires in
    c.bit_of.ensures ∙ bit-read _ _ _ c.args.i _ c.self.view_is c.requires there c.index.ensures
