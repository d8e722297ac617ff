use Rattle.std.proofs.Common.{take, min, ◌-◌, ◌*◌, ap, ◌∙◌, arith}
use Rattle.im_codepred.proofs.RangedLemmas.{block-is}
use Rattle.im_codepred.proofs.ranged.block_of.Goals as goal

pub returns : goal.returns
returns c =
    ap (take c.min-left.result) c.as_slice-codes.ensures
    ∙ block-is c.args.bits.now.codes c.args.codes.now c.args.block c.min-left.result (c.requires.held (omega arith)) c.requires.inside
    (c.min-left.ensures ∙ ap (λ n. min (n - c.args.block * 512) 512) c.len.ensures.len) (omega (arith, c.told-codes))
