use Rattle.std.proofs.Common.{◌*◌, ◌<◌, length, drop, get_or, sym, ap, ◌∙◌, arith, length-take}
use Rattle.std.specs.Int.{div_ceil}
use Rattle.std.proofs.lemmas.List.{length-map}
use Rattle.im_syntax.specs.BoundFits.{value_at}
use Rattle.im_codepred.specs.inner.Slabs.{column_of}
use Rattle.im_codepred.specs.inner.Tallying.{at_bits, with_value}
use Rattle.im_codepred.proofs.BitsLemmas.{word-read, word-few, left-share, left-done, length-at_bits}
use Rattle.im_codepred.proofs.FoundLemmas.{gathered-grows}
use Rattle.im_codepred.proofs.GatherLemmas.{share_of}
use Rattle.im_codepred.proofs.rows.gathered_words.Goals as goal

pub gather_word-requires-clause-word : goal.gather_word-requires-clause-word
gather_word-requires-clause-word c =
    let place = c.loop-place.place in
    let inside : place < div_ceil (length c.args.mask.now) 64 = omega (arith, c.loop-place-test.true, c.words-words.ensures.count) in
    let vs = column_of c.args.rows.now c.args.column in
    let same = c.requires.long ∙ sym (length-map c.args.rows.now (λ row. value_at row c.args.column)) in
    rw (word-read c.args.mask.now c.words-words.result.now place c.words-words.ensures.words inside) (word-few c.args.mask.now vs place same)

pub loop-place-preserved : goal.loop-place-preserved
loop-place-preserved c =
    let place = c.loop-place.place in
    let inside : place < div_ceil (length c.args.mask.now) 64 = omega (arith, c.loop-place-test.true, c.words-words.ensures.count) in
    let vs = column_of c.args.rows.now c.args.column in
    let word = get_or c.words-words.result.now place 0 in
    let share = share_of c.args.rows.now c.args.column (place * 64) in
    let more = gathered-grows c.loop-place.gathered (at_bits word share) in
    record {
      few = omega (
        arith,
        ap (λ f. f.values) c.gather_word.ensures,
        more.1,
        length-at_bits word share,
        length-take 64 (drop (place * 64) vs),
        c.loop-place.invariant.few,
      );
      comes = left-share with_value c.args.mask.now vs place word c.loop-place.gathered _ _ c.loop-place.invariant.comes
          (word-read c.args.mask.now c.words-words.result.now place c.words-words.ensures.words inside) c.gather_word.ensures;
    }

pub returns : goal.returns
returns c =
    left-done with_value c.args.mask.now (column_of c.args.rows.now c.args.column) c.loop-place.place c.loop-place.gathered _
    (omega (arith, c.loop-place-test.false, c.words-words.ensures.count)) c.loop-place.invariant.comes
