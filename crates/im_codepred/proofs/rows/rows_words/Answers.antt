use Rattle.std.proofs.Common.{ℕ, List, map, length, ap, sym, ◌∙◌, arith}
use Rattle.std.specs.Int.{div_ceil}
use Rattle.std.proofs.lemmas.List.{length-map}
use Rattle.im_lanes.proofs.ForCallers.{words-more, words-all, place-begins}
use Rattle.im_codepred.specs.inner.Numbers.{passes_in}
use Rattle.im_codepred.proofs.rows.rows_words.Goals as goal

pub rows_word-requires-clause-begins : goal.rows_word-requires-clause-begins
rows_word-requires-clause-begins c =
    place-begins (length c.args.rows.now) c.loop-place.place
    (omega (arith, c.loop-place-test.true, c.word_count-count.ensures, ap (λ n. div_ceil n 64) c.len.ensures))

pub loop-place-preserved : goal.loop-place-preserved
loop-place-preserved c =
    let p = passes_in c.args.probe.now c.args.column in
    let count = ap (λ n. div_ceil n 64) (c.len.ensures ∙ sym (length-map c.args.rows.now p)) in
    ◌∙◌ {A = List ℕ} c.in_ok-push.ensures.items
    (words-more (map p c.args.rows.now) c.loop-place.place c.loop-place.words.items c.rows_word.result
    (omega (arith, c.loop-place-test.true, c.word_count-count.ensures, count)) c.loop-place.invariant c.rows_word.ensures)

pub returns : goal.returns
returns c =
    let p = passes_in c.args.probe.now c.args.column in
    let count = ap (λ n. div_ceil n 64) (c.len.ensures ∙ sym (length-map c.args.rows.now p)) in
    words-all (map p c.args.rows.now) c.loop-place.place c.loop-place.words.items
    (omega (arith, c.loop-place-test.false, c.word_count-count.ensures, count)) c.loop-place.invariant
