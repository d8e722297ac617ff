use Rattle.std.proofs.Common.{◌*◌, ◌<◌, ◌≤◌, ◌/◌, length, refl, ⊎_elim, ◌∙◌, arith}
use Rattle.std.proofs.lemmas.Grind.{div_ceil_times}
use Rattle.std.proofs.lemmas.Bool.{cases_lt}
use Rattle.im_lanes.proofs.BitLemmas.{or-below}
use Rattle.im_lanes.proofs.MaskLemmas.{filled-step, later-stand, small-set, fill-before, fill-past}
use Rattle.im_lanes.proofs.words.fill_words.Goals as goal

pub loop-place-init : goal.loop-place-init
loop-place-init c = record {
  small = c.requires.small;
  done = λ k h. fill-before c.args.words.now c.args.from c.args.end (c.args.from / 64) k refl h;
  rest = λ k h. refl;
}

pub loop-place-preserved : goal.loop-place-preserved
loop-place-preserved c =
    let few = (div_ceil_times c.args.end 64 (omega arith)).1 in
    let inside : c.loop-place.place < length c.loop-place.words =
    omega (arith, few, c.requires.within, c.loop-place-test.true, c.div_ceil-place-end.ensures, c.loop-place.auto.words) in
    record {
      small = small-set c.loop-place.words c.loop-place.place _ c.loop-place.invariant.small (or-below _ _ (c.loop-place.invariant.small c.loop-place.place) c.bits_from.type_inv);
      done = λ k h. filled-step c.args.words.now c.loop-place.words c.args.from c.args.end c.loop-place.place c.bits_from.result inside c.loop-place.invariant.done c.loop-place.invariant.rest c.bits_from.ensures k h;
      rest = λ k h. later-stand c.args.words.now c.loop-place.words c.loop-place.place _ k c.loop-place.invariant.rest h;
    }

pub returns : goal.returns
returns c = record {
  small = c.loop-place.invariant.small;
  bits = λ k h.
      ⊎_elim (λ (under : k < c.loop-place.place * 64). c.loop-place.invariant.done k under)
      (λ (over : c.loop-place.place * 64 ≤ k).
      c.loop-place.invariant.rest k over ∙ fill-past c.args.words.now c.args.from c.args.end c.loop-place.place k (rw c.div_ceil-place-end.ensures at c.loop-place-test.false) over)
      (cases_lt k (c.loop-place.place * 64));
}
