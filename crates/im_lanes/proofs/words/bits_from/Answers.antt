use Rattle.std.proofs.Common.{◌-◌, min, ◌∙◌, arith}
use Rattle.im_lanes.proofs.BitLemmas.{set-range, within-moved}
use Rattle.im_lanes.proofs.words.bits_from.Goals as goal

pub returns : goal.returns
returns c = λ k inside.
    let low = c.saturating_sub-low.ensures in
    let high = c.min-high.ensures in
    rw (low, high) (set-range (c.args.from - c.args.first) (min (c.args.end - c.args.first) 64) k (omega (arith, c.requires.reaches)) (omega arith)
    (omega (arith, c.requires.begins)) inside
    ∙ within-moved c.args.first c.args.from c.args.end k inside c.requires.begins)
