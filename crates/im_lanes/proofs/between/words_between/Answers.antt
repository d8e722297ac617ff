use Rattle.std.proofs.Common.{map, length, ap, sym, ◌∙◌, arith}
use Rattle.std.specs.Int.{div_ceil}
use Rattle.std.proofs.lemmas.List.{length-map}
use Rattle.im_lanes.specs.Masks.{is_between}
use Rattle.im_lanes.proofs.MaskLemmas.{words-more, words-all, place-begins}
use Rattle.im_lanes.proofs.between.words_between.Goals as goal

pub word_between-requires-clause-inside : goal.word_between-requires-clause-inside
word_between-requires-clause-inside c =
    place-begins (length c.args.bits.now.codes) c.loop-place.place
    (omega (arith, c.loop-place-test.true, c.word_count-count.ensures, ap (λ n. div_ceil n 64) c.len.ensures.len))

pub word_between-requires-clause-few : goal.word_between-requires-clause-few
word_between-requires-clause-few c =
    let begins = place-begins c.len.result c.loop-place.place (omega (arith, c.loop-place-test.true, c.word_count-count.ensures)) in
    omega (arith, begins, c.len.ensures.few)

pub loop-place-preserved : goal.loop-place-preserved
loop-place-preserved c =
    let mask = map (is_between c.args.low c.args.high) c.args.bits.now.codes in
    let count = ap (λ n. div_ceil n 64) (c.len.ensures.len ∙ sym (length-map c.args.bits.now.codes (is_between c.args.low c.args.high))) in
    record {
      words = c.in_ok-push.ensures.items
          ∙ words-more mask c.loop-place.place c.loop-place.words.items c.word_between.result
          (omega (arith, c.loop-place-test.true, c.word_count-count.ensures, count)) c.loop-place.invariant.words c.word_between.ensures;
      held = c.turn_to-held.ensures.held;
    }

pub returns : goal.returns
returns c =
    let mask = map (is_between c.args.low c.args.high) c.args.bits.now.codes in
    let count = ap (λ n. div_ceil n 64) (c.len.ensures.len ∙ sym (length-map c.args.bits.now.codes (is_between c.args.low c.args.high))) in
    words-all mask c.loop-place.place c.loop-place.words.items (omega (arith, c.loop-place-test.false, c.word_count-count.ensures, count))
    c.loop-place.invariant.words
