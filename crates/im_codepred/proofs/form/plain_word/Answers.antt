use Rattle.std.proofs.Common.{◌<◌, ◌≤◌, false, map, length, ap, sym, ◌∙◌, arith}
use Rattle.std.proofs.lemmas.List.{length-map, get_or-map, get_or_read, take_all}
use Rattle.im_values.specs.declared.content.Content.TheVariants.{Null}
use Rattle.im_lanes.specs.Masks.{word_of}
use Rattle.im_lanes.proofs.ForCallers.{push-bit, word_of-few}
use Rattle.im_codepred.specs.inner.Numbers.{passes}
use Rattle.im_codepred.proofs.form.plain_word.Goals as goal

pub loop-i-preserved : goal.loop-i-preserved
loop-i-preserved c =
    let p = passes c.args.probe.now in
    let bits = map p c.args.values.now in
    let inside : c.loop-i.i < length bits = omega (arith, length-map c.args.values.now p, c.loop-i-test.true) in
    let read = get_or_read c.args.values.now c.loop-i.i c.index-values-i.result c.loop-i-test.true c.index-values-i.is Null in
    c.with_bit-word.ensures
    ∙ push-bit bits c.loop-i.i c.meets.result c.loop-i.word inside
    (c.meets.ensures ∙ (ap p read ∙ sym (get_or-map p c.args.values.now c.loop-i.i Null false c.loop-i-test.true))) c.loop-i.invariant

pub with_bit-word-requires-clause-above : goal.with_bit-word-requires-clause-above
with_bit-word-requires-clause-above c =
    let p = passes c.args.probe.now in
    rw c.loop-i.invariant (word_of-few (map p c.args.values.now) c.loop-i.i)

pub returns : goal.returns
returns c =
    let p = passes c.args.probe.now in
    let bits = map p c.args.values.now in
    let over : length bits ≤ c.loop-i.i = omega (arith, length-map c.args.values.now p, c.loop-i-test.false) in
    c.loop-i.invariant ∙ ap word_of (take_all c.loop-i.i bits over)
