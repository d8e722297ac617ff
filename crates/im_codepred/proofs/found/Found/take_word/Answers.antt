use Rattle.std.proofs.Common.{ap, arith}
use mir.Syntax.{w64}
use Rattle.std.proofs.lemmas.Nat.Bits.{bit_at-trailing_zeros}
use Rattle.im_codepred.specs.inner.Tallying.{at_bits, taken}
use Rattle.im_codepred.proofs.BitsLemmas.{left-next, left-none, bit-inside, length-at_bits}
use Rattle.im_codepred.proofs.FoundLemmas.{found-grows}
use Rattle.im_codepred.proofs.found.Found.take_word.Goals as goal

pub bounds-codes-rest : goal.bounds-codes-rest
bounds-codes-rest c =
    let low = bit_at-trailing_zeros w64 c.loop-rest.rest (omega arith) c.loop-rest.auto.rest-fits.fits in
    bit-inside c.args.codes.now c.loop-rest.rest _ c.loop-rest.invariant.few low.1

pub take-requires-clause-few : goal.take-requires-clause-few
take-requires-clause-few c =
    let all = at_bits c.args.word c.args.codes.now in
    let rest = found-grows c.args.numbers.now c.loop-rest.self (at_bits c.loop-rest.rest c.args.codes.now) in
    let whole = found-grows c.args.numbers.now c.args.self.now all in
    let same = ap (λ f. f.values) c.loop-rest.invariant.comes in
    omega (arith, rest.low, whole.high, same, length-at_bits c.args.word c.args.codes.now, c.requires.few, c.requires.short)

pub loop-rest-preserved : goal.loop-rest-preserved
loop-rest-preserved c =
    let low = bit_at-trailing_zeros w64 c.loop-rest.rest (omega arith) c.loop-rest.auto.rest-fits.fits in
    rw c.take.ensures
    (left-next (taken c.args.numbers.now) c.args.codes.now c.loop-rest.rest _ 0 c.loop-rest.self _ c.loop-rest.invariant (omega arith) low.1 low.2)

pub returns : goal.returns
returns c = left-none (taken c.args.numbers.now) c.args.codes.now c.loop-rest.rest c.loop-rest.self _ c.loop-rest.invariant c.loop-rest-test.false
