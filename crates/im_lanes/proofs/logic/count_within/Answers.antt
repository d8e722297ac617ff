use Rattle.std.proofs.Common.{◌+◌, ◌<◌, arith}
use Rattle.std.specs.Int.{div_ceil}
use Rattle.im_lanes.proofs.MaskLemmas.{count-on, count-ends, count-few-from}
use Rattle.im_lanes.proofs.logic.count_within.Goals as goal

pub loop-place-preserved : goal.loop-place-preserved
loop-place-preserved c =
    let inside : c.loop-place.place < div_ceil c.args.end 64 = omega (arith, c.loop-place-test.true, c.word_count-place-end.ensures) in
    count-on c.args.mask.now c.words-words.result.now c.args.from c.args.end c.loop-place.place c.loop-place.total _ _ c.words-words.ensures.words
    c.requires.within inside c.loop-place.invariant c.first_bits-word.ensures c.from-total.ensures

pub overflow_add-total : goal.overflow_add-total
overflow_add-total c =
    let inside : c.loop-place.place < div_ceil c.args.end 64 = omega (arith, c.loop-place-test.true, c.word_count-place-end.ensures) in
    let next =
    count-on c.args.mask.now c.words-words.result.now c.args.from c.args.end c.loop-place.place c.loop-place.total _ _ c.words-words.ensures.words
    c.requires.within inside c.loop-place.invariant c.first_bits-word.ensures c.from-total.ensures in
    record {
      fits = omega (arith, count-few-from c.args.mask.now c.args.from c.args.end (c.loop-place.place + 1) _ next, c.words-words.ensures.few, c.requires.within);
    }

pub overflow_sub-result : goal.overflow_sub-result
overflow_sub-result c =
    (count-ends c.args.mask.now c.words-words.result.now c.args.from c.args.end c.loop-place.place c.loop-place.total _ _ c.words-words.ensures.words
    c.requires.some c.requires.within (omega (arith, c.loop-place-test.false, c.word_count-place-end.ensures)) c.loop-place.invariant
    c.first_bits-before.ensures c.from.ensures).0

pub returns : goal.returns
returns c =
    (count-ends c.args.mask.now c.words-words.result.now c.args.from c.args.end c.loop-place.place c.loop-place.total _ _ c.words-words.ensures.words
    c.requires.some c.requires.within (omega (arith, c.loop-place-test.false, c.word_count-place-end.ensures)) c.loop-place.invariant
    c.first_bits-before.ensures c.from.ensures).1
