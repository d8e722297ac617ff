use Rattle.std.proofs.Common.{ap, arith}
use mir.Syntax.{w64}
use Rattle.std.proofs.lemmas.Nat.Bits.{bit_at-trailing_zeros}
use Rattle.std.proofs.lemmas.List.{get_or_read}
use Rattle.im_values.specs.declared.content.Content.TheVariants.{Null}
use Rattle.im_codepred.specs.inner.Tallying.{at_bits, with_value}
use Rattle.im_codepred.proofs.BitsLemmas.{left-next, left-none, bit-inside, length-at_bits}
use Rattle.im_codepred.proofs.FoundLemmas.{gathered-grows}
use Rattle.im_codepred.proofs.gathered.Gathered.take_word.Goals as goal

pub bounds-values-rest : goal.bounds-values-rest
bounds-values-rest c =
    let low = bit_at-trailing_zeros w64 c.loop-rest.rest (omega arith) c.loop-rest.auto.rest-fits.fits in
    bit-inside c.args.values.now c.loop-rest.rest _ c.loop-rest.invariant.few low.1

pub take-requires : goal.take-requires
take-requires c =
    let all = at_bits c.args.word c.args.values.now in
    let rest = gathered-grows c.loop-rest.self (at_bits c.loop-rest.rest c.args.values.now) in
    let whole = gathered-grows c.args.self.now all in
    let same = ap (λ f. f.values) c.loop-rest.invariant.comes in
    omega (arith, rest.0, whole.1, same, length-at_bits c.args.word c.args.values.now, c.requires.few, c.requires.short)

pub loop-rest-preserved : goal.loop-rest-preserved
loop-rest-preserved c =
    let low = bit_at-trailing_zeros w64 c.loop-rest.rest (omega arith) c.loop-rest.auto.rest-fits.fits in
    let inside = bit-inside c.args.values.now c.loop-rest.rest _ c.loop-rest.invariant.few low.1 in
    let read = get_or_read c.args.values.now _ c.index-values-rest.result inside c.index-values-rest.is Null in
    rw (c.take.ensures, read)
    (left-next with_value c.args.values.now c.loop-rest.rest _ Null c.loop-rest.self _ c.loop-rest.invariant (omega arith) low.1 low.2)

pub returns : goal.returns
returns c = left-none with_value c.args.values.now c.loop-rest.rest c.loop-rest.self _ c.loop-rest.invariant c.loop-rest-test.false
