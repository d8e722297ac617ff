use Rattle.std.proofs.Common.{le_of_lt, arith}
use Rattle.im_bits.proofs.PackedLemmas.{share-begins, some-bits, words_of-more, words_of-all}
use Rattle.im_bits.proofs.bits.words_from.Goals as goal

pub share-requires-clause-within : goal.share-requires-clause-within
share-requires-clause-within c =
    let there = rw c.words_for-count.ensures at c.loop-place-test.true in
    le_of_lt (share-begins c.args.width _ c.loop-place.place (some-bits _ c.args.width c.loop-place.place there) c.requires.width there)

pub loop-place-preserved : goal.loop-place-preserved
loop-place-preserved c =
    let next = rw c.share.ensures at c.word_from.ensures in
    rw c.in_ok-push.ensures.items (words_of-more c.args.width c.args.codes.now c.loop-place.place _ c.loop-place.words.items _ c.words_for-count.ensures
    c.loop-place-test.true c.loop-place.invariant next)

pub returns : goal.returns
returns c =
    words_of-all c.args.width c.args.codes.now c.loop-place.place _ c.loop-place.words.items c.words_for-count.ensures (omega arith) c.loop-place.invariant
