use Rattle.std.proofs.Common.{◌+◌, ◌*◌, ◌<◌, [], length, map, drop, ap, ◌∙◌, arith}
use Rattle.std.proofs.lemmas.List.{length-map}
use Rattle.im_lanes.proofs.ForCallers.{push-bit, word_of-few}
use Rattle.im_codepred.specs.inner.Numbers.{passes, passes_in}
use Rattle.im_codepred.proofs.RowLemmas.{bit-at, bit-within, word-whole}
use Rattle.im_codepred.proofs.rows.numbers_word.Goals as goal

pub with_bit-word-requires-clause-above : goal.with_bit-word-requires-clause-above
with_bit-word-requires-clause-above c =
    let p = passes_in c.args.probe.now c.args.column in
    rw c.loop-i.invariant (word_of-few (drop (c.args.place * 64) (map p c.args.rows.now)) c.loop-i.i)

pub loop-i-preserved : goal.loop-i-preserved
loop-i-preserved c =
    let p = passes_in c.args.probe.now c.args.column in
    let first = c.args.place * 64 in
    let inside : first + c.loop-i.i < length c.args.rows.now = omega (arith, c.loop-i-test.true, c.min-count.ensures, c.len.ensures, c.requires.begins) in
    c.with_bit-word.ensures
    ∙ push-bit (drop first (map p c.args.rows.now)) c.loop-i.i c.meets_among-met.result c.loop-i.word
    (bit-within p c.args.rows.now first c.loop-i.i inside)
    (c.meets_among-met.ensures ∙ (ap (passes c.args.probe.now) c.value_in.ensures ∙ bit-at p c.args.rows.now first c.loop-i.i [] inside))
    c.loop-i.invariant

pub returns : goal.returns
returns c =
    let p = passes_in c.args.probe.now c.args.column in
    let size = length-map c.args.rows.now p in
    word-whole (map p c.args.rows.now) c.args.place c.loop-i.i c.loop-i.word
    (omega (arith, size, c.loop-i-test.false, c.loop-i.auto.i-end, c.min-count.ensures, c.len.ensures)) c.loop-i.invariant
