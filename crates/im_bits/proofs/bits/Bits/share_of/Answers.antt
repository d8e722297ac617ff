use Rattle.std.proofs.Common.{◌≡◌, ◌<◌, ◌/◌, ◌%◌, ◌*◌, ◌-◌, ◌+◌, List, ℕ, take, drop, min, length, ap, sym, subst, ◌∙◌, arith}
use Rattle.im_bits.proofs.UnpackLemmas.{block-share}
use Rattle.im_bits.proofs.bits.Bits.share_of.Goals as goal

pub returns : goal.returns
returns c =
    let at = c.args.place % 8 * 64 in
    let left = c.min-left.ensures ∙ ap (λ n. min (n - c.args.place * 64) 64) c.len.ensures.len in
    ap (λ l. take (at + c.min-left.result - at) (drop at l)) c.as_slice-codes.ensures
    ∙ block-share c.args.self.now.codes c.args.codes.now c.args.place c.min-left.result (c.requires.held (omega arith)) c.requires.inside left
    (omega (arith, c.told-codes))
