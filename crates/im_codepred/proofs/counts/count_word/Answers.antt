use Rattle.std.proofs.Common.{get_or, ap, arith}
use mir.Syntax.{w64}
use Rattle.std.specs.Int.{trailing_zeros}
use Rattle.std.proofs.lemmas.Nat.Bits.{bit_at-trailing_zeros}
use Rattle.im_codepred.specs.inner.Tallying.{at_bits, one_more}
use Rattle.im_codepred.proofs.BitsLemmas.{left-next, left-none, bit-inside, length-at_bits}
use Rattle.im_codepred.proofs.CountLemmas.{counts-grow}
use Rattle.im_codepred.proofs.counts.count_word.Goals as goal

pub bounds-codes-rest : goal.bounds-codes-rest
bounds-codes-rest c =
    let low = bit_at-trailing_zeros w64 c.loop-rest.rest (omega arith) c.loop-rest.auto.rest-fits.fits in
    bit-inside c.args.codes.now c.loop-rest.rest _ c.loop-rest.invariant.few low.1

pub overflow_add-counts : goal.overflow_add-counts
overflow_add-counts c =
    let code = get_or c.args.codes.now (trailing_zeros w64 c.loop-rest.rest) 0 in
    let all = at_bits c.args.word c.args.codes.now in
    let rest = counts-grow c.loop-rest.counts (at_bits c.loop-rest.rest c.args.codes.now) code in
    let whole = counts-grow c.args.counts.now all code in
    let same = ap (λ l. get_or l code 0) c.loop-rest.invariant.comes in
    record {
      fits = omega (arith, rest.0, whole.1, same, length-at_bits c.args.word c.args.codes.now, c.requires.few code, c.requires.short);
    }

pub loop-rest-preserved : goal.loop-rest-preserved
loop-rest-preserved c =
    let low = bit_at-trailing_zeros w64 c.loop-rest.rest (omega arith) c.loop-rest.auto.rest-fits.fits in
    left-next one_more c.args.codes.now c.loop-rest.rest _ 0 c.loop-rest.counts _ c.loop-rest.invariant (omega arith) low.1 low.2

pub returns : goal.returns
returns c = left-none one_more c.args.codes.now c.loop-rest.rest c.loop-rest.counts _ c.loop-rest.invariant c.loop-rest-test.false
