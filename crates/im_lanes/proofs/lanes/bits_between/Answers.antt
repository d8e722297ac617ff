use Rattle.std.proofs.Common.{◌-◌, nat_le, arith, ap, map, ◌∙◌}
use mir.Syntax.{w32}
use lib.Lanes.{mask_l}
use Rattle.std.proofs.lemmas.Simd.{bitmask_splat, zip2_splat, length-zip2}
use Rattle.im_lanes.proofs.LaneLemmas.{one-compare, lanes-between}
use Rattle.im_lanes.proofs.lanes.bits_between.Goals as goal

pub returns : goal.returns
returns c =
    let long = c.fits-codes.0 in
    let taken = zip2_splat _ c.args.codes 64 c.args.low long in
    bitmask_splat w32 nat_le _ 64 (c.args.high - c.args.low) (length-zip2 _ c.args.codes _ long ∙ long) (omega arith)
    ∙ (ap (λ xs. mask_l (map (λ x. nat_le x (c.args.high - c.args.low)) xs)) taken
    ∙ lanes-between _ c.args.low c.args.high c.args.codes c.fits-codes.1
    (λ code small. one-compare c.args.low c.args.high code c.requires c.ranges.high.fits small))
