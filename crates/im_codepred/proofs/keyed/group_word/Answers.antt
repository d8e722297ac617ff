use Rattle.std.proofs.Common.{◌≡◌, ◌<◌, ◌-◌, List, fold, bit_and, length, get_or, ap, sym, refl, subst, ◌∙◌, arith}
use mir.Syntax.{w64}
use Rattle.std.specs.Int.{trailing_zeros}
use Rattle.std.proofs.lemmas.Nat.Bits.{bit_at-trailing_zeros}
use Rattle.std.proofs.lemmas.List.{get_or_default}
use Rattle.im_values.specs.declared.content.Content.TheVariants.{Null}
use Rattle.im_codes.specs.Dictionary.{lent}
use Rattle.im_codepred.specs.inner.Tallying.{TotalsOf, at_bits, keyed, no_totals, with_pair, IsLeft}
use Rattle.im_codepred.proofs.BitsLemmas.{left-all, left-next, left-none, bit-inside, length-at_bits}
use Rattle.im_codepred.proofs.KeyedLemmas.{length-keyed, get_or-keyed, groups-grow, pair-put}
use Rattle.im_codepred.proofs.keyed.group_word.Goals as goal

pub loop-rest-init : goal.loop-rest-init
loop-rest-init c =
    let size = length-keyed c.args.keys.now (lent c.args.values.now) in
    left-all with_pair (keyed c.args.keys.now (lent c.args.values.now)) c.args.word c.args.groups.now (rw size c.requires.word)

pub bounds-keys-i : goal.bounds-keys-i
bounds-keys-i c =
    let low = bit_at-trailing_zeros w64 c.loop-rest.rest (omega arith) c.loop-rest.auto.rest-fits.fits in
    let pairs = keyed c.args.keys.now (lent c.args.values.now) in
    omega (arith, bit-inside pairs c.loop-rest.rest _ c.loop-rest.invariant.few low.1, length-keyed c.args.keys.now (lent c.args.values.now))

pub take-requires : goal.take-requires
take-requires c =
    let pairs = keyed c.args.keys.now (lent c.args.values.now) in
    let key = get_or c.args.keys.now (trailing_zeros w64 c.loop-rest.rest) 0 in
    let low = bit_at-trailing_zeros w64 c.loop-rest.rest (omega arith) c.loop-rest.auto.rest-fits.fits in
    let place = bit-inside pairs c.loop-rest.rest _ c.loop-rest.invariant.few low.1 in
    let within : trailing_zeros w64 c.loop-rest.rest < length c.args.keys.now = omega (arith, place, length-keyed c.args.keys.now (lent c.args.values.now)) in
    let inside : key < length c.loop-rest.groups = omega (arith, c.requires.codes (trailing_zeros w64 c.loop-rest.rest) 0 within, c.loop-rest.auto.groups) in
    let all = at_bits c.args.word pairs in
    let rest = groups-grow c.loop-rest.groups (at_bits c.loop-rest.rest pairs) key in
    let whole = groups-grow c.args.groups.now all key in
    let same = ap (λ l. get_or l key no_totals) c.loop-rest.invariant.comes in
    let here : c.index-groups-key.result ≡ get_or c.loop-rest.groups key no_totals =
    c.index-groups-key.is ∙ get_or_default c.loop-rest.groups key c.index-groups-key.result no_totals inside in
    omega (
      arith,
      ap (λ t. t.values) (sym c.index-groups-key.is),
      ap (λ t. t.values) here,
      rest.0,
      whole.1,
      ap (λ t. t.values) same,
      length-at_bits c.args.word pairs,
      length-keyed c.args.keys.now (lent c.args.values.now),
      c.requires.few key,
      c.requires.short,
    )

pub loop-rest-preserved : goal.loop-rest-preserved
loop-rest-preserved c =
    let pairs = keyed c.args.keys.now (lent c.args.values.now) in
    let i = trailing_zeros w64 c.loop-rest.rest in
    let key = get_or c.args.keys.now i 0 in
    let low = bit_at-trailing_zeros w64 c.loop-rest.rest (omega arith) c.loop-rest.auto.rest-fits.fits in
    let place = bit-inside pairs c.loop-rest.rest _ c.loop-rest.invariant.few low.1 in
    let within : i < length c.args.keys.now = omega (arith, place, length-keyed c.args.keys.now (lent c.args.values.now)) in
    let inside : key < length c.loop-rest.groups = omega (arith, c.requires.codes i 0 within, c.loop-rest.auto.groups) in
    let put =
    pair-put c.loop-rest.groups key c.index-groups-key.result (get_or c.loop-rest.groups key c.index-groups-key.result) c.take.new.self (get_or (lent c.args.values.now) i Null)
    c.value_at.result.now (get_or pairs i (0, Null)) inside refl c.value_at.ensures c.take.ensures
    (get_or-keyed c.args.keys.now (lent c.args.values.now) i 0 Null within) in
    let P : List TotalsOf → Type 0 =
    λ groups. IsLeft with_pair pairs (bit_and c.loop-rest.rest (c.loop-rest.rest - 1)) groups (fold with_pair c.args.groups.now (at_bits c.args.word pairs)) in
    subst P (sym put) (left-next with_pair pairs c.loop-rest.rest i (0, Null) c.loop-rest.groups _ c.loop-rest.invariant (omega arith) low.1 low.2)

pub returns : goal.returns
returns c =
    left-none with_pair (keyed c.args.keys.now (lent c.args.values.now)) c.loop-rest.rest c.loop-rest.groups _ c.loop-rest.invariant
    c.loop-rest-test.false
