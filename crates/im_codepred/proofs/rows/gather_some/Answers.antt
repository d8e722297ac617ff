use Rattle.std.proofs.Common.{drop, ap, arith, length-take}
use mir.Syntax.{w64}
use Rattle.std.proofs.lemmas.Nat.Bits.{bit_at-trailing_zeros}
use Rattle.im_values.specs.declared.content.Content.TheVariants.{Null}
use Rattle.im_codepred.specs.inner.Slabs.{column_of}
use Rattle.im_codepred.specs.inner.Tallying.{at_bits, with_value}
use Rattle.im_codepred.proofs.BitsLemmas.{left-next, left-none, bit-inside, length-at_bits}
use Rattle.im_codepred.proofs.FoundLemmas.{gathered-grows}
use Rattle.im_codepred.proofs.GatherLemmas.{share_of, share-reaches}
use Rattle.im_codepred.proofs.rows.gather_some.Goals as goal

pub overflow_add-first : goal.overflow_add-first
overflow_add-first c =
    let low = bit_at-trailing_zeros w64 c.loop-rest.rest (omega arith) c.loop-rest.auto.rest-fits.fits in
    let share = share_of c.args.rows.now c.args.column c.args.first in
    let reaches = share-reaches c.args.rows.now c.args.column c.args.first _ (bit-inside share c.loop-rest.rest _ c.loop-rest.invariant.few low.1) in
    search (arith, reaches.inside, c.requires.rows)

pub value_in-requires-clause-within : goal.value_in-requires-clause-within
value_in-requires-clause-within c =
    let low = bit_at-trailing_zeros w64 c.loop-rest.rest (omega arith) c.loop-rest.auto.rest-fits.fits in
    let share = share_of c.args.rows.now c.args.column c.args.first in
    let reaches = share-reaches c.args.rows.now c.args.column c.args.first _ (bit-inside share c.loop-rest.rest _ c.loop-rest.invariant.few low.1) in
    reaches.inside

pub take-requires : goal.take-requires
take-requires c =
    let share = share_of c.args.rows.now c.args.column c.args.first in
    let all = at_bits c.args.word share in
    let rest = gathered-grows c.loop-rest.gathered (at_bits c.loop-rest.rest share) in
    let whole = gathered-grows c.args.gathered.now all in
    let same = ap (λ f. f.values) c.loop-rest.invariant.comes in
    let short = length-take 64 (drop c.args.first (column_of c.args.rows.now c.args.column)) in
    omega (arith, rest.0, whole.1, same, length-at_bits c.args.word share, c.requires.few, short)

pub loop-rest-preserved : goal.loop-rest-preserved
loop-rest-preserved c =
    let low = bit_at-trailing_zeros w64 c.loop-rest.rest (omega arith) c.loop-rest.auto.rest-fits.fits in
    let share = share_of c.args.rows.now c.args.column c.args.first in
    let reaches = share-reaches c.args.rows.now c.args.column c.args.first _ (bit-inside share c.loop-rest.rest _ c.loop-rest.invariant.few low.1) in
    rw (c.take.ensures, c.value_in.ensures, reaches.reads)
    (left-next with_value share c.loop-rest.rest _ Null c.loop-rest.gathered _ c.loop-rest.invariant (omega arith) low.1 low.2)

pub returns : goal.returns
returns c =
    left-none with_value (share_of c.args.rows.now c.args.column c.args.first) c.loop-rest.rest c.loop-rest.gathered _ c.loop-rest.invariant
    c.loop-rest-test.false
