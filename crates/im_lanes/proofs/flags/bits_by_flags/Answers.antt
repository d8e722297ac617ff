use Rattle.std.proofs.Common.{◌<◌, ◌≤◌, ℕ, Bool, false, get_or, map, length, ap, sym, ◌∙◌, arith}
use Rattle.std.proofs.lemmas.List.{length-map, get_or-map, take_all}
use Rattle.im_lanes.specs.Masks.{word_of}
use Rattle.im_lanes.proofs.MaskLemmas.{push-bit, word_of-few}
use Rattle.im_lanes.proofs.flags.bits_by_flags.Goals as goal

pub loop-i-preserved : goal.loop-i-preserved
loop-i-preserved c =
    let p : ℕ → Bool = λ code. get_or c.args.flags.now code false in
    let bits = map p c.args.codes.now in
    let inside : c.loop-i.i < length bits = omega (arith, length-map c.args.codes.now p, c.loop-i-test.true) in
    c.with_bit-word.ensures
    ∙ push-bit bits c.loop-i.i _ c.loop-i.word inside (sym (get_or-map p c.args.codes.now c.loop-i.i 0 false c.loop-i-test.true)) c.loop-i.invariant

pub with_bit-word-requires-clause-above : goal.with_bit-word-requires-clause-above
with_bit-word-requires-clause-above c =
    let p : ℕ → Bool = λ code. get_or c.args.flags.now code false in
    rw c.loop-i.invariant (word_of-few (map p c.args.codes.now) c.loop-i.i)

pub returns : goal.returns
returns c =
    let p : ℕ → Bool = λ code. get_or c.args.flags.now code false in
    let bits = map p c.args.codes.now in
    let over : length bits ≤ c.loop-i.i = omega (arith, length-map c.args.codes.now p, c.loop-i-test.false) in
    c.loop-i.invariant ∙ ap word_of (take_all c.loop-i.i bits over)
