use Rattle.std.proofs.Common.{◌<◌, ◌≤◌, ◌-◌, List, fold, zip, bit_and, length, get_or, ap, sym, subst, arith}
use mir.Syntax.{w64}
use Rattle.std.specs.Int.{trailing_zeros}
use Rattle.std.proofs.lemmas.Nat.Bits.{bit_at-trailing_zeros}
use Rattle.std.proofs.lemmas.List.{get_or_default}
use Rattle.im_codepred.specs.inner.Tallying.{FoundOf, at_bits, nothing, with_code, IsLeft}
use Rattle.im_codepred.proofs.BitsLemmas.{left-all, left-next, left-none, bit-inside, length-at_bits}
use Rattle.im_codepred.proofs.KeyedLemmas.{length-zip, get_or-zip}
use Rattle.im_codepred.proofs.PairLemmas.{founds-grow, code-put}
use Rattle.im_codepred.proofs.found_by_key.find_word.Goals as goal

pub loop-rest-init : goal.loop-rest-init
loop-rest-init c =
    let size = length-zip c.args.keys.now c.args.codes.now (omega (arith, c.requires.long)) in
    left-all (with_code c.args.ends c.args.numbers.now) (zip c.args.keys.now c.args.codes.now) c.args.word c.args.founds.now (rw size c.requires.word)

pub bounds-keys-i : goal.bounds-keys-i
bounds-keys-i c =
    let low = bit_at-trailing_zeros w64 c.loop-rest.rest (omega arith) c.loop-rest.auto.rest-fits.fits in
    let pairs = zip c.args.keys.now c.args.codes.now in
    let size = length-zip c.args.keys.now c.args.codes.now (omega (arith, c.requires.long)) in
    omega (arith, bit-inside pairs c.loop-rest.rest _ c.loop-rest.invariant.few low.1, size)

pub bounds-founds-key : goal.bounds-founds-key
bounds-founds-key c =
    let low = bit_at-trailing_zeros w64 c.loop-rest.rest (omega arith) c.loop-rest.auto.rest-fits.fits in
    let pairs = zip c.args.keys.now c.args.codes.now in
    let size = length-zip c.args.keys.now c.args.codes.now (omega (arith, c.requires.long)) in
    let place = bit-inside pairs c.loop-rest.rest _ c.loop-rest.invariant.few low.1 in
    let within : trailing_zeros w64 c.loop-rest.rest < length c.args.keys.now = omega (arith, place, size) in
    omega (arith, c.requires.below (trailing_zeros w64 c.loop-rest.rest) 0 within, c.loop-rest.auto.founds)

pub bounds-codes-i : goal.bounds-codes-i
bounds-codes-i c =
    let low = bit_at-trailing_zeros w64 c.loop-rest.rest (omega arith) c.loop-rest.auto.rest-fits.fits in
    let pairs = zip c.args.keys.now c.args.codes.now in
    let size = length-zip c.args.keys.now c.args.codes.now (omega (arith, c.requires.long)) in
    omega (arith, bit-inside pairs c.loop-rest.rest _ c.loop-rest.invariant.few low.1, size, c.requires.long)

pub take_for-requires-clause-few : goal.take_for-requires-clause-few
take_for-requires-clause-few c =
    let pairs = zip c.args.keys.now c.args.codes.now in
    let size = length-zip c.args.keys.now c.args.codes.now (omega (arith, c.requires.long)) in
    let key = get_or c.args.keys.now (trailing_zeros w64 c.loop-rest.rest) 0 in
    let low = bit_at-trailing_zeros w64 c.loop-rest.rest (omega arith) c.loop-rest.auto.rest-fits.fits in
    let place = bit-inside pairs c.loop-rest.rest _ c.loop-rest.invariant.few low.1 in
    let within : trailing_zeros w64 c.loop-rest.rest < length c.args.keys.now = omega (arith, place, size) in
    let inside : key < length c.loop-rest.founds = omega (arith, c.requires.below (trailing_zeros w64 c.loop-rest.rest) 0 within, c.loop-rest.auto.founds) in
    let all = at_bits c.args.word pairs in
    let rest = founds-grow c.args.ends c.args.numbers.now c.loop-rest.founds (at_bits c.loop-rest.rest pairs) key in
    let whole = founds-grow c.args.ends c.args.numbers.now c.args.founds.now all key in
    let same = ap (λ l. get_or l key nothing) c.loop-rest.invariant.comes in
    let here = get_or_default c.loop-rest.founds key c.index-founds-key.result nothing inside in
    omega (
      arith,
      ap (λ t. t.values) here,
      rest.0,
      whole.1,
      ap (λ t. t.values) same,
      length-at_bits c.args.word pairs,
      size,
      c.requires.few key,
      c.requires.short,
    )

pub loop-rest-preserved : goal.loop-rest-preserved
loop-rest-preserved c =
    let pairs = zip c.args.keys.now c.args.codes.now in
    let fits : length c.args.keys.now ≤ length c.args.codes.now = omega (arith, c.requires.long) in
    let size = length-zip c.args.keys.now c.args.codes.now fits in
    let i = trailing_zeros w64 c.loop-rest.rest in
    let key = get_or c.args.keys.now i 0 in
    let low = bit_at-trailing_zeros w64 c.loop-rest.rest (omega arith) c.loop-rest.auto.rest-fits.fits in
    let place = bit-inside pairs c.loop-rest.rest _ c.loop-rest.invariant.few low.1 in
    let within : i < length c.args.keys.now = omega (arith, place, size) in
    let inside : key < length c.loop-rest.founds = omega (arith, c.requires.below i 0 within, c.loop-rest.auto.founds) in
    let put =
    code-put c.args.ends c.args.numbers.now c.loop-rest.founds key (get_or c.args.codes.now i 0) c.index-founds-key.result c.take_for.new.self (get_or pairs i (0, 0)) inside
    c.take_for.ensures (get_or-zip c.args.keys.now c.args.codes.now i 0 0 within fits) in
    let P : List FoundOf → Type 0 =
    λ founds. IsLeft (with_code c.args.ends c.args.numbers.now) pairs (bit_and c.loop-rest.rest (c.loop-rest.rest - 1)) founds
    (fold (with_code c.args.ends c.args.numbers.now) c.args.founds.now (at_bits c.args.word pairs)) in
    subst P (sym put)
    (left-next (with_code c.args.ends c.args.numbers.now) pairs c.loop-rest.rest i (0, 0) c.loop-rest.founds _ c.loop-rest.invariant (omega arith) low.1 low.2)

pub returns : goal.returns
returns c =
    left-none (with_code c.args.ends c.args.numbers.now) (zip c.args.keys.now c.args.codes.now) c.loop-rest.rest c.loop-rest.founds _ c.loop-rest.invariant
    c.loop-rest-test.false
