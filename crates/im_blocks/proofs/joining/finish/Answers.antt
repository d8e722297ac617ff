use Rattle.std.proofs.Common.{◌≡◌, length, ap, ◌∙◌, arith}
use Rattle.im_blocks.proofs.JoinLemmas.{length-cut}
use Rattle.im_blocks.proofs.joining.finish.Goals as goal

pub put-requires : goal.put-requires
put-requires c =
    let joint = c.args.joint in
    let long : length c.in_ok-rows.rows ≡ joint.count = ap length c.in_ok-rows.ensures ∙ length-cut joint.count joint.width joint.values.items in
    let within = c.requires.within in
    omega (arith, long, within)
