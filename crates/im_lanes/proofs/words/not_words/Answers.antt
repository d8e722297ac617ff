use Rattle.std.proofs.Common.{◌-◌, ◌*◌, ◌%◌, ◌^◌, ◌<◌, ◌≢◌, length, ap, ◌∙◌, arith, get_or-set_other}
use Rattle.im_lanes.proofs.MaskLemmas.{turned-step, later-stand, small-set}
use Rattle.im_lanes.proofs.words.not_words.Goals as goal

pub loop-i-preserved : goal.loop-i-preserved
loop-i-preserved c =
    let inside : c.loop-i.i < length c.loop-i.words = omega (arith, c.loop-i.auto.words, c.loop-i-test.true) in
    let word = ap (λ w. (18446744073709551615 - w) % 2 ^ (c.args.len - c.loop-i.i * 64)) (c.loop-i.invariant.same c.loop-i.i (omega arith)) in
    record {
      small = small-set c.loop-i.words c.loop-i.i c.first_bits.result c.loop-i.invariant.small c.first_bits.type_inv;
      same = λ k h.
          let other : k ≢ c.loop-i.i = omega (arith, h) in
          get_or-set_other c.loop-i.words c.loop-i.i k c.first_bits.result 0 other ∙ c.loop-i.invariant.same k (omega (arith, h));
      done = turned-step c.args.words.now c.loop-i.words c.args.len c.loop-i.i c.first_bits.result inside c.requires.small c.loop-i.invariant.done
          c.loop-i.invariant.rest (c.first_bits.ensures ∙ word);
      rest = λ k h. later-stand c.args.words.now c.loop-i.words c.loop-i.i c.first_bits.result k c.loop-i.invariant.rest h;
    }

pub returns : goal.returns
returns c = record {
  small = c.loop-i.invariant.small;
  bits = λ k h. c.loop-i.invariant.done k (omega (arith, c.loop-i.auto.words, h, c.loop-i-test.false));
}
