use Rattle.std.proofs.Common.{ℕ, get_or, false, map, length, ap, sym, ◌∙◌, arith}
use Rattle.std.specs.Int.{div_ceil}
use Rattle.std.proofs.lemmas.List.{length-map}
use Rattle.im_lanes.proofs.MaskLemmas.{words-more, words-all, place-begins}
use Rattle.im_lanes.proofs.flags.words_by_flags.Goals as goal

pub word_by_flags-requires-clause-inside : goal.word_by_flags-requires-clause-inside
word_by_flags-requires-clause-inside c =
    place-begins (length c.args.bits.now.codes) c.loop-place.place
    (omega (arith, c.loop-place-test.true, c.word_count-count.ensures, ap (λ n. div_ceil n 64) c.len.ensures.len))

pub word_by_flags-requires-clause-few : goal.word_by_flags-requires-clause-few
word_by_flags-requires-clause-few c =
    let begins = place-begins c.len.result c.loop-place.place (omega (arith, c.loop-place-test.true, c.word_count-count.ensures)) in
    omega (arith, begins, c.len.ensures.few)

pub loop-place-preserved : goal.loop-place-preserved
loop-place-preserved c =
    let mask = map (λ (code : ℕ). get_or c.args.flags.now code false) c.args.bits.now.codes in
    let count = ap (λ n. div_ceil n 64) (c.len.ensures.len ∙ sym (length-map c.args.bits.now.codes (λ (code : ℕ). get_or c.args.flags.now code false))) in
    c.in_ok-push.ensures.items
    ∙ words-more mask c.loop-place.place c.loop-place.words.items c.word_by_flags.result (omega (arith, c.loop-place-test.true, c.word_count-count.ensures, count))
    c.loop-place.invariant c.word_by_flags.ensures

pub returns : goal.returns
returns c =
    let mask = map (λ (code : ℕ). get_or c.args.flags.now code false) c.args.bits.now.codes in
    let count = ap (λ n. div_ceil n 64) (c.len.ensures.len ∙ sym (length-map c.args.bits.now.codes (λ (code : ℕ). get_or c.args.flags.now code false))) in
    words-all mask c.loop-place.place c.loop-place.words.items (omega (arith, c.loop-place-test.false, c.word_count-count.ensures, count)) c.loop-place.invariant
