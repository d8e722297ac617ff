use Rattle.std.proofs.Common.{List, ◌*◌, ◌^◌, ◌<◌, length, take, drop, fold, get_or, sym, subst, ap, ◌∙◌, arith, length-take}
use Rattle.std.specs.Int.{div_ceil}
use Rattle.im_values.specs.declared.content.Content.{Content as Value}
use Rattle.im_codepred.specs.inner.Tallying.{at_bits, with_value}
use Rattle.im_codepred.proofs.BitsLemmas.{word-read, word-few, left-share, left-done, length-at_bits}
use Rattle.im_codepred.proofs.FoundLemmas.{gathered-grows}
use Rattle.im_codepred.proofs.gathered.gathered_in.Goals as goal

pub take_word-requires-clause-word : goal.take_word-requires-clause-word
take_word-requires-clause-word c =
    let place = c.loop-place.place in
    let inside : place < div_ceil (length c.args.mask.now) 64 = omega (arith, c.loop-place-test.true, c.words-words.ensures.count) in
    let P : List Value → Type 0 = λ l. get_or c.words-words.result.now place 0 < 2 ^ length l in
    subst P (sym c.share.ensures.part)
    (rw (word-read c.args.mask.now c.words-words.result.now place c.words-words.ensures.words inside)
    (word-few c.args.mask.now c.args.values.now place c.requires.long))

pub loop-place-preserved : goal.loop-place-preserved
loop-place-preserved c =
    let place = c.loop-place.place in
    let inside : place < div_ceil (length c.args.mask.now) 64 = omega (arith, c.loop-place-test.true, c.words-words.ensures.count) in
    let word = get_or c.words-words.result.now place 0 in
    let share = take 64 (drop (place * 64) c.args.values.now) in
    let more = gathered-grows c.loop-place.gathered (at_bits word share) in
    let is = c.take_word.ensures ∙ ap (λ l. fold with_value c.loop-place.gathered (at_bits word l)) c.share.ensures.part in
    record {
      few = omega (
        arith,
        ap (λ f. f.values) is,
        more.1,
        length-at_bits word share,
        length-take 64 (drop (place * 64) c.args.values.now),
        c.loop-place.invariant.few,
      );
      comes = left-share with_value c.args.mask.now c.args.values.now place word c.loop-place.gathered _ _ c.loop-place.invariant.comes
          (word-read c.args.mask.now c.words-words.result.now place c.words-words.ensures.words inside) is;
    }

pub returns : goal.returns
returns c =
    left-done with_value c.args.mask.now c.args.values.now c.loop-place.place c.loop-place.gathered _
    (omega (arith, c.loop-place-test.false, c.words-words.ensures.count)) c.loop-place.invariant.comes
