use Rattle.std.proofs.Common.{◌-◌, ◌*◌, ℕ, Bool, false, get_or, min, length, ap, ◌∙◌}
use Rattle.im_lanes.proofs.MaskLemmas.{word-taken, taken-below}
use Rattle.im_lanes.proofs.flags.word_by_flags.Goals as goal

pub bits_by_flags-requires-clause-flags : goal.bits_by_flags-requires-clause-flags
bits_by_flags-requires-clause-flags c =
    let rest = c.min-left.ensures ∙ ap (λ n. min (n - c.args.place * 64) 64) c.len.ensures.len in
    taken-below c.args.bits.now.codes c.codes_from.new.out c.args.place c.min-left.result (length c.args.flags.now) rest c.codes_from.array_long
    c.codes_from.ensures c.requires.flags

pub returns : goal.returns
returns c =
    let p : ℕ → Bool = λ code. get_or c.args.flags.now code false in
    let rest = c.min-left.ensures ∙ ap (λ n. min (n - c.args.place * 64) 64) c.len.ensures.len in
    word-taken p c.args.bits.now.codes c.codes_from.new.out c.args.place _ c.min-left.result rest c.bits_by_flags.ensures c.codes_from.array_long
    c.codes_from.ensures
