use Rattle.std.proofs.Common.{ℕ, List, map, length, ap, sym, ◌∙◌, arith}
use Rattle.std.specs.Int.{div_ceil}
use Rattle.std.proofs.lemmas.List.{length-map}
use Rattle.im_lanes.proofs.ForCallers.{words-more, words-all, place-begins}
use Rattle.im_codepred.specs.inner.Numbers.{passes}
use Rattle.im_codepred.proofs.FormLemmas.{word-of-share}
use Rattle.im_codepred.proofs.form.plain_words.Goals as goal

pub share-requires-clause-inside : goal.share-requires-clause-inside
share-requires-clause-inside c =
    place-begins (length c.args.values.now) c.loop-place.place
    (omega (arith, c.loop-place-test.true, c.word_count-count.ensures, ap (λ n. div_ceil n 64) c.requires.len))

pub loop-place-preserved : goal.loop-place-preserved
loop-place-preserved c =
    let p = passes c.args.probe.now in
    let count = ap (λ n. div_ceil n 64) (c.requires.len ∙ sym (length-map c.args.values.now p)) in
    ◌∙◌ {A = List ℕ} c.in_ok-push.ensures.items
    (words-more (map p c.args.values.now) c.loop-place.place c.loop-place.words.items c.plain_word.result
    (omega (arith, c.loop-place-test.true, c.word_count-count.ensures, count)) c.loop-place.invariant
    (word-of-share p c.args.values.now c.share.result.now c.loop-place.place c.plain_word.result c.share.ensures.part c.plain_word.ensures))

pub returns : goal.returns
returns c =
    let p = passes c.args.probe.now in
    let count = ap (λ n. div_ceil n 64) (c.requires.len ∙ sym (length-map c.args.values.now p)) in
    words-all (map p c.args.values.now) c.loop-place.place c.loop-place.words.items (omega (arith, c.loop-place-test.false, c.word_count-count.ensures, count))
    c.loop-place.invariant
