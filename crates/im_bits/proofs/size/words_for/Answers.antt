use Rattle.std.proofs.Common.{◌<◌, sym, ap, ◌∙◌, arith}
use Rattle.std.specs.Int.{div_ceil}
use Rattle.im_bits.proofs.PackedLemmas.{words_for-is}
use Rattle.im_bits.proofs.size.words_for.Goals as goal

pub returns : goal.returns
returns c =
    let some : 0 < c.args.width = omega arith in
    c.div_ceil.ensures ∙ (ap (λ per. div_ceil c.args.n per) c.from.ensures ∙ sym (words_for-is c.args.n c.args.width some))
