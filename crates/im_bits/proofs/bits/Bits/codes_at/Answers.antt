use Rattle.std.proofs.Common.{◌≡◌, ◌+◌, ◌%◌, ◌<◌, length, get_or, ap, sym, ◌∙◌, arith, div-le_self}
use Rattle.std.proofs.lemmas.List.{length-set}
use Rattle.im_bits.specs.Packed.{Packed}
use Rattle.im_bits.proofs.PackedLemmas.{length-codes_in}
use Rattle.im_bits.proofs.UnpackLemmas.{unpack-more, unpack-read}
use Rattle.im_bits.proofs.bits.Bits.codes_at.Goals as goal

pub per_word-share-requires-clause-most : goal.per_word-share-requires-clause-most
per_word-share-requires-clause-most g c =
    let same = ap (λ (b : Packed). b.width) c.self.view_is ∙ c.requires.width in
    omega (arith, same, c.self.invariant.0)

pub unpack_words-requires-clause-first : goal.unpack_words-requires-clause-first
unpack_words-requires-clause-first g c =
    let long : length c.args.self.now.codes ≡ c.self.inside.len = ap (λ (b : Packed). length b.codes) (sym c.self.view_is) ∙ length-codes_in _ _ _ in
    let within : c.args.first < 2147483648 = omega (arith, long, c.requires.within, c.self.invariant.1) in
    omega (arith, within, div-le_self c.args.first c.per_word-share.result)

pub loop-k-preserved : goal.loop-k-preserved
loop-k-preserved g c =
    let out = c.loop-k.out in
    let per = c.per_word-share.result in
    let code = get_or c.unpack_words.new.codes (c.args.first % per + c.loop-k.k) 0 in
    let inside : c.loop-k.k < length out = omega (arith, c.loop-k.invariant.size, c.loop-k-test.true) in
    let has = rw c.as_slice-words.ensures.value at c.unpack_words.ensures in
    let read =
    unpack-read g.row.W c.self.inside.width c.self.inside.words.items c.self.inside.len c.args.self.now.codes c.unpack_words.new.codes c.args.first per
    c.loop-k.k (ap (λ (b : Packed). b.width) c.self.view_is ∙ c.requires.width) c.requires.some c.self.invariant.0
    (ap (λ (b : Packed). b.codes) c.self.view_is) c.self.invariant.2 c.per_word-share.ensures c.loop-k-test.true
    has in
    record {
      size = omega (arith, length-set out c.loop-k.k code, c.loop-k.invariant.size);
      codes = unpack-more out c.args.self.now.codes c.args.first c.loop-k.k code inside read c.loop-k.invariant.codes;
    }
