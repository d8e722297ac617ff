use Rattle.std.proofs.Common.{◌-◌, ◌*◌, ap, ◌∙◌}
use Rattle.im_lanes.specs.Masks.{is_between}
use Rattle.im_lanes.proofs.MaskLemmas.{word-flags}
use Rattle.im_lanes.proofs.between.word_between.Goals as goal

pub returns : goal.returns
returns c =
    c.first_bits.ensures
    ∙ word-flags (is_between c.args.low c.args.high) c.args.bits.now.codes c.lanes_of-lanes.result c.args.place c.bits_between.result _ c.requires.inside
    (ap (λ n. n - c.args.place * 64) c.len.ensures.len) c.bits_between.ensures c.lanes_of-lanes.ensures.long c.lanes_of-lanes.ensures.codes
