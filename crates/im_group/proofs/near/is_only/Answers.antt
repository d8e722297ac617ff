use Rattle.std.proofs.Common.{◌∙◌}
use Rattle.im_group.proofs.NearLaws.{only}
use Rattle.im_group.proofs.near.is_only.Goals as goal

pub returns-then-key-eq1 : goal.returns-then-key-eq1
returns-then-key-eq1 c =
    c.is.ensures ∙ only c.args.sought.value.now c.args.key.now c.index-key-0.result c.if-key-eq1.true c.index-key-0.is
