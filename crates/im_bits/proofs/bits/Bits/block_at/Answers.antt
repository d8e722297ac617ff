use Rattle.std.proofs.Common.{◌≡◌, ◌+◌, ◌/◌, ◌%◌, ◌*◌, ◌<◌, length, ap, sym, ◌∙◌, arith, div-le_self}
use Rattle.im_bits.specs.Packed.{Packed, codes_per_word}
use Rattle.im_bits.specs.inner.Unpacking.{HasCodesOf}
use Rattle.im_bits.proofs.PackedLemmas.{length-codes_in}
use Rattle.im_bits.proofs.UnpackLemmas.{block-read}
use Rattle.im_bits.proofs.bits.Bits.block_at.Goals as goal

pub unpack_block-requires-clause-first : goal.unpack_block-requires-clause-first
unpack_block-requires-clause-first g c =
    let long : length c.args.self.now.codes ≡ c.self.inside.len = ap (λ (b : Packed). length b.codes) (sym c.self.view_is) ∙ length-codes_in _ _ _ in
    let within : c.args.first < 2147483648 = omega (arith, long, c.requires.within, c.self.invariant.1) in
    omega (arith, within, div-le_self c.args.first c.per_word-share.result)

pub returns : goal.returns
returns g c =
    let per = c.per_word-share.result in
    let has = rw c.as_slice-words.ensures.value at c.unpack_block.ensures in
    block-read g.row.W c.self.inside.width c.self.inside.words.items c.self.inside.len c.args.self.now.codes c.unpack_block.new.codes c.args.first per
    (ap (λ (b : Packed). b.width) c.self.view_is ∙ c.requires.width) c.requires.some c.self.invariant.0
    (ap (λ (b : Packed). b.codes) c.self.view_is) c.self.invariant.2 c.per_word-share.ensures has
