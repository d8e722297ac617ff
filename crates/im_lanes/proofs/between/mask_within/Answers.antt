use Rattle.std.proofs.Common.{◌-◌, ◌<◌, arith, ap, replicate, false, ◌∙◌}
use Rattle.im_lanes.specs.Masks.{is_between, is_within}
use Rattle.im_lanes.proofs.MaskLemmas.{none-pass, map-same, within-none, within-between}
use Rattle.im_lanes.proofs.between.mask_within.Goals as goal

pub returns-then-end-eq0 : goal.returns-then-end-eq0
returns-then-end-eq0 c =
    let p = is_within c.args.low c.args.end in
    c.in_ok-mask.ensures ∙ (ap (λ n. replicate n false) c.len.ensures.len
    ∙ none-pass p c.args.bits.now.codes (λ x. ap (λ n. is_within c.args.low n x) c.if-end-eq0.true ∙ within-none c.args.low x))

pub returns : goal.returns
returns c =
    let some : 0 < c.args.end = omega arith in
    c.in_ok-mask-2.ensures
    ∙ map-same (is_between c.args.low (c.args.end - 1)) (is_within c.args.low c.args.end) c.args.bits.now.codes
    (λ x. within-between c.args.low c.args.end x some)
