use Rattle.std.proofs.Common.{[], Bool, List, ◌≡◌, ◌<◌, ◌≤◌, false, length, map, get_or, ap, sym, ◌∙◌, arith}
use Rattle.std.proofs.lemmas.List.{length-map, get_or-map, take_all}
use Rattle.std.proofs.lemmas.Option.{get_or_from_slice_get}
use Rattle.im_values.specs.declared.content.Content.{Content as Value}
use Rattle.im_eval.specs.Holds.{truth_of}
use Rattle.im_lanes.specs.Masks.{word_of}
use Rattle.im_lanes.proofs.ForCallers.{push-bit, word_of-few}
use Rattle.im_codepred.specs.declared.asked.Wanted.TheVariants.{Held}
use Rattle.im_codepred.specs.Asked.{met}
use Rattle.im_codepred.proofs.selection.word_by_row.Goals as goal

pub with_bit-word-requires-clause-above : goal.with_bit-word-requires-clause-above
with_bit-word-requires-clause-above c =
    let p : List Value → Bool = λ row. met Held (truth_of c.args.filter.now row) in
    rw c.loop-i.invariant (word_of-few (map p c.args.rows.now) c.loop-i.i)

pub loop-i-preserved : goal.loop-i-preserved
loop-i-preserved c =
    let p : List Value → Bool = λ row. met Held (truth_of c.args.filter.now row) in
    let bits = map p c.args.rows.now in
    let within : c.loop-i.i < length c.args.rows.now = omega (arith, c.loop-i-test.true, c.len-i-end.ensures) in
    let inside : c.loop-i.i < length bits = omega (arith, length-map c.args.rows.now p, within) in
    let read : c.values.result ≡ get_or c.args.rows.now c.loop-i.i [] = sym (get_or_from_slice_get c.args.rows.now c.loop-i.i c.values.result [] c.values.ensures) in
    c.with_bit-word.ensures
    ∙ push-bit bits c.loop-i.i c.met.result c.loop-i.word inside
    (c.met.ensures ∙ (ap (met Held) c.holds-truth.ensures ∙ (ap p read ∙ sym (get_or-map p c.args.rows.now c.loop-i.i [] false within)))) c.loop-i.invariant

pub returns : goal.returns
returns c =
    let p : List Value → Bool = λ row. met Held (truth_of c.args.filter.now row) in
    let bits = map p c.args.rows.now in
    let over : length bits ≤ c.loop-i.i = omega (arith, length-map c.args.rows.now p, c.loop-i-test.false, c.len-i-end.ensures) in
    c.loop-i.invariant ∙ ap word_of (take_all c.loop-i.i bits over)
