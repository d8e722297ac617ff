use Rattle.std.proofs.Common.{◌+◌, ◌*◌, ◌≤◌, take, length, length-take, ◌∙◌, arith}
use Rattle.im_lanes.proofs.MaskLemmas.{count-more, count-all, count-few}
use Rattle.im_lanes.proofs.logic.count.Goals as goal

pub loop-place-preserved : goal.loop-place-preserved
loop-place-preserved c = record {
  so_far = count-more c.args.mask.now _ c.loop-place.place _ _ c.words-words.ensures.words c.loop-place-test.true c.loop-place.invariant.so_far
      c.from-total.ensures;
}

pub overflow_add-total : goal.overflow_add-total
overflow_add-total c = record {
  fits =
      let all = take ((c.loop-place.place + 1) * 64) c.args.mask.now in
      let next =
      count-more c.args.mask.now _ c.loop-place.place _ _ c.words-words.ensures.words c.loop-place-test.true c.loop-place.invariant.so_far
      c.from-total.ensures in
      let most : length all ≤ length c.args.mask.now = omega (arith, length-take ((c.loop-place.place + 1) * 64) c.args.mask.now) in
      omega (arith, next, count-few all, most, c.words-words.ensures.few);
}

pub returns : goal.returns
returns c =
    c.loop-place.invariant.so_far
    ∙ count-all c.args.mask.now c.loop-place.place (omega (arith, c.words-words.ensures.count, c.loop-place-test.false))
